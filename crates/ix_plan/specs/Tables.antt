-- The tables of words that a reader looks words up in.
use Rattle.std.specs.Prelude.{◌≡◌}
use Rattle.ix_types.specs.Codes.{Table, kinds, langs, roles, props}

pub record AreTables (its_kinds its_langs its_roles its_props : Table) : Type 0 where
  pub kinds : its_kinds ≡ kinds
  pub langs : its_langs ≡ langs
  pub roles : its_roles ≡ roles
  pub props : its_props ≡ props
