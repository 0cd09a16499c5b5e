-- The error that a fault of the directory is.
use Rattle.ix_dir.specs.declared.dir.DirError.{DirError}
use Rattle.ix_dir.specs.declared.dir.DirError.TheVariants as dir
use Rattle.ix_cabinet.specs.declared.fault.StageError.{StageError}
use Rattle.ix_cabinet.specs.declared.fault.StageError.TheVariants as stage
use Rattle.ix_cabinet.specs.declared.fault.ScanError.{ScanError}
use Rattle.ix_cabinet.specs.declared.fault.ScanError.TheVariants as scan

abbrev pub stage_error : DirError → StageError
stage_error dir.Failed = stage.Fault
stage_error dir.Memory = stage.Memory

abbrev pub scan_error : DirError → ScanError
scan_error dir.Failed = scan.Fault
scan_error dir.Memory = scan.Memory
