use Rattle.std.proofs.Common.{length}
use Rattle.std.specs.List.{flat_map}
use Rattle.ix_wire.specs.Spelling.{u32_bytes, text_bytes}
use Rattle.ix_unit.specs.Spelling.{magic_bytes, flag_bytes, unit_dep_bytes, record_dep_bytes, file_dep_bytes, include_bytes, unit_bytes}
use Rattle.ix_unit.specs.Value.{dependency_count}
use Rattle.ix_unit.proofs.Grammar.{magic_is}
use Rattle.ix_unit.proofs.Written.{on_ok, regroup}
use Rattle.ix_unit.proofs.writing.put_unit.Goals as goal

pub returns : goal.returns
unfolding unit_bytes
returns c =
    let v = c.args.value.now in
    on_ok c.put_includes.result _ _ c.put_includes.ensures
    (λ written. rw (
      written,
      c.in_ok-put_u32-3.ensures.ok,
      c.in_ok-put_file_deps.ensures,
      c.in_ok-put_record_deps.ensures,
      c.in_ok-put_unit_deps.ensures,
      c.in_ok-put_u32-2.ensures.ok,
      c.in_ok-put_flag.ensures,
      c.in_ok-put_text-3.ensures.ok,
      c.in_ok-put_text-2.ensures.ok,
      c.in_ok-put_text.ensures.ok,
      c.in_ok-put_u32.ensures.ok,
      magic_is,
      c.as_slice-units.ensures,
      c.as_slice-records.ensures,
      c.as_slice-files.ensures,
      c.as_slice-includes.ensures,
    ) (regroup c.args.out.now.items magic_bytes (text_bytes v.output) (text_bytes v.main_file) (text_bytes v.module_name) (flag_bytes v.system) (u32_bytes (dependency_count v))
    (flat_map unit_dep_bytes v.units) (flat_map record_dep_bytes v.records) (flat_map file_dep_bytes v.files) (u32_bytes (length v.includes)) (flat_map include_bytes v.includes)))
