use Rattle.ix_looks.proofs.laws.given.Goals as goal

pub returns : goal.returns
returns c = record {
  contents = c.contents_have_bytes.ensures;
  come = c.a_scan_leads_to_what_is_visible.ensures.come;
  go = c.a_scan_leads_to_what_is_visible.ensures.go;
  stay = c.a_scan_leads_to_what_is_visible.ensures.stay;
  stamps_now = c.stamps_are_of_units.ensures.now;
  whole = c.what_is_needed_can_be_loaded.ensures.whole;
  value = c.what_is_needed_can_be_loaded.ensures.value;
  names_set = c.answers_are_sorted_sets.ensures.texts;
  one_record = c.one_value.ensures;
  parts = c.records_have_one_value.ensures.parts;
}
