use Rattle.std.proofs.Common.{◌≡◌, ◌∙◌, ◌++◌, ◌+◌, ◌/◌, ◌%◌, OnOk, length, map, take, ap, subst, arith}
use Rattle.std.proofs.lemmas.List.{append_assoc}
use Rattle.ix_pages.specs.Changes.{cut_often}
use Rattle.ix_pages.specs.Tree.{pair_of, leaf_pages, pages_of}
use Rattle.ix_pages.proofs.Halves.{cut_often_map}
use Rattle.ix_pages.proofs.bulk.+built.Goals as goal

pub returns-clause-pages : goal.returns-clause-pages
returns-clause-pages g t c =
    let entries = c.args.entries.now in
    let half = length entries / 2 + length entries % 2 in
    let rounded : half ≡ (length entries + 1) / 2 = omega arith in
    let before = pages_of leaf_pages c.args.pages.now.items in
    let front = cut_often c.args.most (map pair_of c.split_at.result.0.now) in
    let back = cut_often c.args.most (map pair_of c.split_at.result.1.now) in
    let e = ap (λ p. p ++ back) c.in_ok-built.ensures.pages
    ∙ append_assoc before front back
    ∙ ap (λ part. before ++ (cut_often c.args.most (map pair_of part) ++ back)) c.split_at.ensures.front
    ∙ ap (λ part. before ++ (cut_often c.args.most (map pair_of (take half entries)) ++ cut_often c.args.most (map pair_of part))) c.split_at.ensures.back
    ∙ ap (λ p. before ++ p) (cut_often_map pair_of c.args.most half entries c.requires.most c.if-entries-most.false rounded) in
    subst (λ p. OnOk c.built-2.result (pages_of leaf_pages c.built-2.new.pages.items ≡ p)) e c.built-2.ensures.pages
