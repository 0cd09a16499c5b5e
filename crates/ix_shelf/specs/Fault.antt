-- The error that a fault of the directory is.
use Rattle.ix_dir.specs.declared.dir.DirError.{DirError}
use Rattle.ix_dir.specs.declared.dir.DirError.TheVariants as dir
use Rattle.ix_shelf.specs.declared.fault.PutError.{PutError}
use Rattle.ix_shelf.specs.declared.fault.PutError.TheVariants as put
use Rattle.ix_shelf.specs.declared.fault.LoadError.{LoadError}
use Rattle.ix_shelf.specs.declared.fault.LoadError.TheVariants as load

abbrev pub put_error : DirError → PutError
put_error dir.Failed = put.Fault
put_error dir.Memory = put.Memory

abbrev pub load_error : DirError → LoadError
load_error dir.Failed = load.Fault
load_error dir.Memory = load.Memory
