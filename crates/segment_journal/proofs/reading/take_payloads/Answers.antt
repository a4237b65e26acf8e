use Rattle.std.proofs.Common.{◌≡◌, ◌+◌, None, Some, Err, drop, get_or, refl, sym, ap, ◌∙◌, arith, rules}
use Rattle.std.proofs.lemmas.List.{length-drop}
use Rattle.log_base.specs.Wide.{IsBytes}
use Rattle.segment_journal.specs.File.{spelled}
use Rattle.segment_journal.proofs.ReadingLemmas.{payload-parts, sought, one-more, cut-at, broken-at}
use Rattle.segment_journal.proofs.reading.take_payloads.Goals as goal

pub returns-in_default-clause-damaged : goal.returns-in_default-clause-damaged
returns-in_default-clause-damaged c = λ at is.
    let none = sought c.args.bytes.now (c.gates.at + 1) None c.in_default.ensures in
    let same : c.gates.at ≡ at = cc is in
    broken-at c.args.bytes.now c.gates.list.list c.gates.at c.gates.invariant.2 c.requires.long c.gates.invariant.0 c.gates-test.true c.gates.invariant.1 none ∙ ap (λ n. Err n) same

pub add-requires : goal.add-requires
add-requires c =
    let found = sought c.args.bytes.now (c.gates.at + 1) (Some c.in-Some.payload.now) c.in-Some.ensures in
    (payload-parts (drop (c.gates.at + 1) c.args.bytes.now) c.in-Some.payload.now found).fits

pub overflow_add-at-in-gates-2 : goal.overflow_add-at-in-gates-2
overflow_add-at-in-gates-2 c =
    let found = sought c.args.bytes.now (c.gates.at + 1) (Some c.in-Some.payload.now) c.in-Some.ensures in
    omega (arith, (payload-parts (drop (c.gates.at + 1) c.args.bytes.now) c.in-Some.payload.now found).there, length-drop (c.gates.at + 1) c.args.bytes.now)

pub gates-preserved : goal.gates-preserved
gates-preserved c =
    let found = sought c.args.bytes.now (c.gates.at + 1) (Some c.in-Some.payload.now) c.in-Some.ensures in
    let bytes : IsBytes c.args.bytes.now = λ i. search (rules, c.type_inv.bytes i) in
    let more = one-more c.args.bytes.now c.gates.list.list c.gates.at c.in-Some.payload.now bytes c.gates.invariant.0 c.gates-test.true c.gates.invariant.1 found in
    (more.1, more.0 ∙ ap spelled (sym c.in-Ok.ensures.ok), c.in-Ok.ensures.payloads)

pub returns-clause-ok : goal.returns-clause-ok
returns-clause-ok c = record {
  gate = get_or c.args.bytes.now c.gates.at 0;
  rest = drop (c.gates.at + 1) c.args.bytes.now;
  spells = cut-at c.args.bytes.now c.gates.list.list c.gates.at _ c.gates.invariant.0 refl c.gates.invariant.1;
  closed = c.gates-test.false;
}
