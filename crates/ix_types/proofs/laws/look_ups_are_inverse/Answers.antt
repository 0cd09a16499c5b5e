use Rattle.ix_types.proofs.LookUps.{names_are_rows, codes_are_rows, no_name_off_rows, no_code_off_rows}
use Rattle.ix_types.proofs.laws.look_ups_are_inverse.Goals as goal

pub returns : goal.returns
returns c = record {
  names = names_are_rows;
  codes = codes_are_rows;
  no_name = no_name_off_rows;
  no_code = no_code_off_rows;
}
