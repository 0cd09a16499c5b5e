-- The change that an edit of a tree makes.
use Rattle.ix_pages.specs.declared.changes.Change.{Change}
use Rattle.ix_pages.specs.declared.changes.Change.TheVariants.{Put, Take}
use Rattle.ix_pages.specs.declared.bulk.Edit.{Edit}
use Rattle.ix_pages.specs.declared.bulk.Edit.TheVariants.{Place, Remove, Without}
use Rattle.ix_pages.specs.Changes.{key_of_change}
use Rattle.ix_pages.specs.Tree.{pair_of}

module _ {K V : Type 0} where
  abbrev pub change_of : Edit K V → Change K V
  change_of (Place entry) = Put (pair_of entry).0 (pair_of entry).1
  change_of (Remove key) = Take key
  change_of (Without key) = Take key.now

  -- the key of an edit
  abbrev pub key_of_edit : Edit K V → K
  key_of_edit edit = key_of_change (change_of edit)
