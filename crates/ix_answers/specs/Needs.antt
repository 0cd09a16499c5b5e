-- Which records a query needs, and which of them to load next.
use Rattle.std.specs.Prelude.{ℕ, zero, suc, not, List, [], ◌++◌, Option}
use Rattle.std.specs.List.{find}
use Rattle.ix_types.specs.declared.row.Query.{Query}
use Rattle.ix_types.specs.declared.row.Query.TheVariants as ask
use Rattle.ix_model.specs.Rows.{rows}
use Rattle.ix_model.specs.Units.{Units}
use Rattle.ix_answers.specs.declared.walks.Walk.{Walk}
use Rattle.ix_answers.specs.declared.walks.Walk.TheVariants.{Incoming, Outgoing, Supertypes, Subtypes}
use Rattle.ix_answers.specs.Lookups.{is_among, providers, related, named, coded, in_path, holders, related_to}
use Rattle.ix_answers.specs.Answers.{matched}
use Rattle.ix_answers.specs.Walks.{reached}

-- the records that have the edges of a level: those that hold its symbols, or those with a relation to them
abbrev pub needs_of : Walk → List (List ℕ) → Units → List (List ℕ)
needs_of Incoming level units = holders level units
needs_of Outgoing level units = related_to level units
needs_of Supertypes level units = related_to level units
needs_of Subtypes level units = holders level units

-- the records that the level of a number needs
abbrev pub level_needs : Walk → List ℕ → Units → ℕ → List (List ℕ)
level_needs walk usr units n = needs_of walk (reached walk (rows units) usr n).level units

-- the records that the first n levels need, level after level
abbrev pub walk_needs : Walk → List ℕ → Units → ℕ → List (List ℕ)
walk_needs walk usr units zero = []
walk_needs walk usr units (suc n) = walk_needs walk usr units n ++ level_needs walk usr units n

-- the records that a query needs, in the order in which they are loaded: for a walk those of each level below its depth, level after level
abbrev pub need_of : Query → Units → List (List ℕ)
need_of (ask.Def usr) units = providers usr units
need_of (ask.Refs usr) units = providers usr units
need_of (ask.Occ usr roles) units = providers usr units
need_of (ask.Rel usr roles) units = related usr units
need_of (ask.Callers usr) units = providers usr units
need_of (ask.Overrides usr) units = related usr units
need_of (ask.Name name) units = holders (named name units) units
need_of (ask.Pattern text start end fold) units = holders (matched text start end fold units) units
need_of (ask.Symbols path) units = in_path path units
need_of (ask.Mains path) units = []
need_of (ask.Units path) units = []
need_of (ask.Includes path) units = []
need_of (ask.Includers path) units = []
need_of (ask.Incoming usr depth) units = walk_needs Incoming usr units depth
need_of (ask.Outgoing usr depth) units = walk_needs Outgoing usr units depth
need_of (ask.Supertypes usr depth) units = walk_needs Supertypes usr units depth
need_of (ask.Subtypes usr depth) units = walk_needs Subtypes usr units depth
need_of (ask.Codegen codegen) units = holders (coded codegen units) units

-- the first of some names that isn't loaded
abbrev pub lacking_of : List (List ℕ) → List (List ℕ) → Option (List ℕ)
lacking_of loaded names = find (λ name. not (is_among loaded name)) names

-- the first needed record that isn't loaded
abbrev pub next_need : Query → Units → List (List ℕ) → Option (List ℕ)
next_need query units loaded = lacking_of loaded (need_of query units)
