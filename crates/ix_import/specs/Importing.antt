-- An importer: its version, and the import that is open.
use Rattle.std.specs.Prelude.{◌≡◌, ℕ, true, List, [], Option, Some, None, not, is_some, find}
use Rattle.std.specs.List.{AllByRecursion}
use Rattle.ix_types.specs.Row.{text_cmp}
use Rattle.ix_unit.specs.declared.batch.UnitPut.{UnitPut}
use Rattle.ix_unit.specs.declared.batch.Scan.{Scan}
use Rattle.ix_pages.specs.Pairs.{look_up, with_pair}
use Rattle.ix_outline.specs.declared.outline.Outline.{Outline}
use Rattle.ix_outline.specs.Following.{known_after}
use Rattle.ix_outline.specs.Known.{Known, nothing_known}
use Rattle.ix_outline.specs.Moving.{Named}

-- an open import: where it leads, the names of records that are new, and the outlines of those that were taken
pub record Opened : Type 0 where
  pub mark : ℕ
  pub puts : List UnitPut
  pub gone : List (List ℕ)
  pub fresh : List (List ℕ)
  pub taken : Named Outline

-- the number of the version, what its tables know, and the open import
pub record Importing : Type 0 where
  pub number : ℕ
  pub known : Known
  pub import : Option Opened

-- before anything was imported
abbrev pub importing_nothing : Importing
importing_nothing = record { number = 0; known = nothing_known; import = None }

-- a scan is open, and nothing of it is taken
abbrev pub opened_by : Scan → Opened
opened_by scan = record { mark = scan.mark; puts = scan.batch.puts; gone = scan.batch.gone; fresh = scan.fresh; taken = [] }

abbrev pub begun : Scan → Importing → Importing
begun scan importing = record importing { import = Some (opened_by scan) }

-- the first of the new names that wasn't taken
abbrev pub next_in : List (List ℕ) → Named Outline → Option (List ℕ)
next_in fresh taken = find (λ name. not (is_some (look_up text_cmp taken name))) fresh

abbrev pub next_under : Option Opened → Option (List ℕ)
next_under None = None
next_under (Some opened) = next_in opened.fresh opened.taken

abbrev pub next_of : Importing → Option (List ℕ)
next_of importing = next_under importing.import

-- an outline is taken under a name
abbrev pub taken_into : List ℕ → Outline → Opened → Opened
taken_into name outline opened = record opened { taken = with_pair text_cmp opened.taken (name, outline) }

abbrev pub taken_under : List ℕ → Outline → Option Opened → Option Opened
taken_under name outline None = None
taken_under name outline (Some opened) = Some (taken_into name outline opened)

abbrev pub took : List ℕ → Outline → Importing → Importing
took name outline importing = record importing { import = taken_under name outline importing.import }

-- the import is closed, and the version is the one before
abbrev pub abandoned : Importing → Importing
abandoned importing = record importing { import = None }

-- the version is that of the import's mark, after its batch, and the import is closed
abbrev pub finished_by : Opened → Known → Importing
finished_by opened known = record { number = opened.mark; known = known_after opened.puts opened.gone opened.taken known; import = None }

abbrev pub finished_under : Option Opened → Importing → Importing
finished_under None importing = importing
finished_under (Some opened) importing = finished_by opened importing.known

abbrev pub finished : Importing → Importing
finished importing = finished_under importing.import importing

-- outlines were taken under all of the names
abbrev pub AreTaken : Named Outline → List (List ℕ) → Type 0
AreTaken taken names = AllByRecursion (λ name. is_some (look_up text_cmp taken name) ≡ true) names
