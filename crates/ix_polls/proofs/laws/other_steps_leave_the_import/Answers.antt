use Rattle.ix_polls.proofs.Changes.{Changes, left}
use Rattle.ix_polls.proofs.Others.{seen_still, imports_still, under_way_still}
use Rattle.ix_polls.proofs.laws.other_steps_leave_the_import.Goals as goal

pub returns-clause-import : goal.returns-clause-import
returns-clause-import c name_of s lane given flag stepped ok e =
    let l = c.calls_change_what_they_name.ensures in
    let laws : Changes = record { lease = l.lease; put = l.put; stage = l.stage; publish = l.publish; remove = l.remove; adopt = l.adopt; release = l.release; collect = l.collect } in
    (left laws name_of s lane flag stepped given (c.steps_join.ensures.grows name_of s lane given flag stepped e) ok e).import

pub returns-clause-current : goal.returns-clause-current
returns-clause-current c name_of s lane given flag stepped ok e =
    let l = c.calls_change_what_they_name.ensures in
    let laws : Changes = record { lease = l.lease; put = l.put; stage = l.stage; publish = l.publish; remove = l.remove; adopt = l.adopt; release = l.release; collect = l.collect } in
    (left laws name_of s lane flag stepped given (c.steps_join.ensures.grows name_of s lane given flag stepped e) ok e).current

pub returns-clause-seen : goal.returns-clause-seen
returns-clause-seen c name_of s lane given flag stepped mark ok e below =
    let l = c.calls_change_what_they_name.ensures in
    let laws : Changes = record { lease = l.lease; put = l.put; stage = l.stage; publish = l.publish; remove = l.remove; adopt = l.adopt; release = l.release; collect = l.collect } in
    seen_still c.the_latest_publication_stands.ensures.prefix s stepped.state (left laws name_of s lane flag stepped given (c.steps_join.ensures.grows name_of s lane given flag stepped e) ok e) mark below

pub returns-clause-follows : goal.returns-clause-follows
returns-clause-follows c name_of s lane given flag stepped importer marks ok e is =
    let l = c.calls_change_what_they_name.ensures in
    let laws : Changes = record { lease = l.lease; put = l.put; stage = l.stage; publish = l.publish; remove = l.remove; adopt = l.adopt; release = l.release; collect = l.collect } in
    imports_still c.the_latest_publication_stands.ensures.prefix s stepped.state (left laws name_of s lane flag stepped given (c.steps_join.ensures.grows name_of s lane given flag stepped e) ok e) marks importer is

pub returns-clause-under_way : goal.returns-clause-under_way
returns-clause-under_way c name_of s lane given flag stepped importer other doing ok e is =
    let l = c.calls_change_what_they_name.ensures in
    let laws : Changes = record { lease = l.lease; put = l.put; stage = l.stage; publish = l.publish; remove = l.remove; adopt = l.adopt; release = l.release; collect = l.collect } in
    under_way_still c.the_latest_publication_stands.ensures.prefix s stepped.state (left laws name_of s lane flag stepped given (c.steps_join.ensures.grows name_of s lane given flag stepped e) ok e) other doing importer is
