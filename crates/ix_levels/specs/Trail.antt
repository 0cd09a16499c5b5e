-- A walk on its way, level by level.
use Rattle.std.specs.Prelude.{◌≡◌, ◌↔◌, ◌⊎◌, ◌<◌, ◌≤◌, ◌+◌, ◌||◌, ℕ, zero, suc, Bool, false, List, [], ◌∷◌, ◌++◌, take, Contains}
use Rattle.ix_types.specs.declared.row.EdgeRow.{EdgeRow}
use Rattle.ix_types.specs.declared.row.Query.{Query}
use Rattle.ix_types.specs.declared.row.Query.TheVariants as ask
use Rattle.ix_model.specs.Rows.{rows}
use Rattle.ix_model.specs.Units.{Units}
use Rattle.ix_answers.specs.declared.walks.Walk.{Walk}
use Rattle.ix_answers.specs.declared.walks.Walk.TheVariants.{Incoming, Outgoing, Supertypes, Subtypes}
use Rattle.ix_answers.specs.Lookups.{is_among}
use Rattle.ix_answers.specs.Needs.{needs_of, level_needs}
use Rattle.ix_answers.specs.Rising.{AreLoaded}
use Rattle.ix_answers.specs.Walks.{Reached, reached, edges_to}
use Rattle.ix_lookups.specs.Found.{Found}
use Rattle.ix_lookups.specs.Loaded.{Loaded, loaded_names}
use Rattle.ix_needs.specs.Premises.{is_plain}
use Rattle.ix_levels.specs.Levels.{names_while, level_edges, fresh_ends}

-- what a walk has come to
pub record Trail : Type 0 where
  pub walk : Walk
  -- the number of the level where it stands; the start is level 0
  pub number : ℕ
  -- from how many more levels it goes, this one with them
  pub left : ℕ
  -- USRs of the levels before
  pub seen : List (List ℕ)
  -- the USRs of the level
  pub level : List (List ℕ)
  -- the records that the level needs, and the place of the first that wasn't found loaded
  pub needed : List (List ℕ)
  pub place : ℕ
  -- the edges so far
  pub edges : List EdgeRow

-- what a query that is a walk goes over
abbrev pub walk_of : Query → Walk
walk_of (ask.Incoming usr depth) = Incoming
walk_of (ask.Outgoing usr depth) = Outgoing
walk_of (ask.Supertypes usr depth) = Supertypes
walk_of (ask.Subtypes usr depth) = Subtypes
walk_of query = Incoming

-- where it starts
abbrev pub start_of : Query → List ℕ
start_of (ask.Incoming usr depth) = usr
start_of (ask.Outgoing usr depth) = usr
start_of (ask.Supertypes usr depth) = usr
start_of (ask.Subtypes usr depth) = usr
start_of query = []

-- from how many levels it goes
abbrev pub depth_of : Query → ℕ
depth_of (ask.Incoming usr depth) = depth
depth_of (ask.Outgoing usr depth) = depth
depth_of (ask.Supertypes usr depth) = depth
depth_of (ask.Subtypes usr depth) = depth
depth_of query = 0

-- the levels of a query's walk over units, up to the first n
abbrev pub levels_of : Query → Units → ℕ → Reached
levels_of query units n = reached (walk_of query) (rows units) (start_of query) n

-- what a level needs, where the walk goes from so many more levels
abbrev pub needs_while : ℕ → Walk → List (List ℕ) → Units → List (List ℕ)
needs_while zero walk level units = []
needs_while (suc left) walk level units = needs_of walk level units

-- whether a USR is of the level or of one before
abbrev pub is_met : Trail → List ℕ → Bool
is_met trail usr = is_among trail.seen usr || is_among trail.level usr

-- the trail is that of the query's walk over the units: it stands at one of its levels, has the edges to it, and what it has passed is loaded
pub record IsOpenOver (query : Query) (units : Units) (bodies : Loaded) (trail : Trail) : Type 0 where
  pub is_walk : is_plain query ≡ false
  pub goes : trail.walk ≡ walk_of query
  pub deep : trail.number + trail.left ≡ depth_of query
  pub met : (usr : List ℕ) → is_met trail usr ≡ (is_among (levels_of query units trail.number).earlier usr || is_among (levels_of query units trail.number).level usr)
  pub stands : trail.level ≡ (levels_of query units trail.number).level
  pub has_edges : (e : EdgeRow) → Contains trail.edges e ↔ Contains (edges_to (walk_of query) (rows units) (start_of query) trail.number) e
  pub needs : trail.needed ≡ needs_while trail.left (walk_of query) trail.level units
  pub passed_levels : (m : ℕ) → m < trail.number → AreLoaded (loaded_names bodies) (level_needs (walk_of query) (start_of query) units m)
  pub passed : AreLoaded (loaded_names bodies) (take trail.place trail.needed)

-- the walk goes no further: it has gone from all levels of its depth, or the level is empty
abbrev pub IsDone : Trail → Type 0
IsDone trail = (trail.left ≡ 0) ⊎ (trail.level ≡ [])

-- a trail at the start of a walk
pub record IsAtStart (walk : Walk) (start : List ℕ) (depth : ℕ) (found : Found) (trail : Trail) : Type 0 where
  pub goes : trail.walk ≡ walk
  pub number : trail.number ≡ 0
  pub left : trail.left ≡ depth
  pub seen : trail.seen ≡ []
  pub level : trail.level ≡ start ∷ []
  pub needed : trail.needed ≡ names_while depth walk (start ∷ []) found
  pub place : trail.place ≡ 0
  pub edges : trail.edges ≡ []

-- the edges that begin in the level of a trail by the records that it needs
abbrev pub next_edges : Found → Loaded → Trail → List EdgeRow
next_edges found bodies trail = level_edges trail.walk (suc trail.number) trail.level trail.needed found bodies

-- one level further
pub record IsNextLevel (found : Found) (bodies : Loaded) (before after : Trail) : Type 0 where
  pub goes : after.walk ≡ before.walk
  pub number : after.number ≡ suc before.number
  pub left : before.left ≡ suc after.left
  pub seen : (usr : List ℕ) → is_among after.seen usr ≡ is_met before usr
  pub level : after.level ≡ fresh_ends after.seen (next_edges found bodies before)
  pub needed : after.needed ≡ names_while after.left after.walk after.level found
  pub place : after.place ≡ 0
  pub edges : after.edges ≡ before.edges ++ next_edges found bodies before

-- the same level, whatever the place; of it some USRs may be among those seen
pub record IsSameLevel (before after : Trail) : Type 0 where
  pub goes : after.walk ≡ before.walk
  pub number : after.number ≡ before.number
  pub left : after.left ≡ before.left
  pub met : (usr : List ℕ) → is_met after usr ≡ is_met before usr
  pub level : after.level ≡ before.level
  pub needed : after.needed ≡ before.needed
  pub edges : after.edges ≡ before.edges

-- a trail that has not gone back: it stands at a later level, or at the same level and at no earlier place
abbrev pub IsFurther : Trail → Trail → Type 0
IsFurther before after = (before.number < after.number) ⊎ ((after.number ≡ before.number) × (before.place ≤ after.place))
