use Rattle.std.proofs.Common.{◌<◌, ◌≤◌, ◌-◌, ◌+◌, ℕ, List, length, drop, get_or, Some, sym, ap, ◌∙◌, arith}
use Rattle.std.specs.Prelude.{slice_get}
use Rattle.log_base.specs.declared.numbers.Place.{Place}
use Rattle.cut_chain.specs.Runs.{places_of}
use Rattle.cut_chain.proofs.Walks.{no_run, walked, run-get_within, run-get_past}
use Rattle.cut_chain.proofs.walking.place_in.Goals as goal

pub returns-then-left-count : goal.returns-then-left-count
returns-then-left-count c =
    let runs = c.args.runs.now in
    let index = c.loop-run.run-index in
    let run = get_or runs index no_run in
    let within : index < length runs = c.loop-run-test.true in
    let small : c.loop-run.left < run.count = omega (arith, c.if-left-count.true, c.from-count.ensures) in
    ap Some c.place.ensures
    ∙ sym (run-get_within run.shard.0 run.segment.0 run.first run.count c.loop-run.left (places_of (drop (index + 1) runs)) small)
    ∙ ap (λ (ps : List Place). slice_get ps c.loop-run.left) (sym (walked runs index within))
    ∙ c.loop-run.invariant

pub loop-run-preserved : goal.loop-run-preserved
loop-run-preserved c =
    let runs = c.args.runs.now in
    let index = c.loop-run.run-index in
    let run = get_or runs index no_run in
    let within : index < length runs = c.loop-run-test.true in
    let past : run.count ≤ c.loop-run.left = omega (arith, c.if-left-count.false, c.from-count.ensures) in
    ap (λ (n : ℕ). slice_get (places_of (drop (index + 1) runs)) (c.loop-run.left - n)) c.from-count.ensures
    ∙ sym (run-get_past run.shard.0 run.segment.0 run.first run.count c.loop-run.left (places_of (drop (index + 1) runs)) past)
    ∙ ap (λ (ps : List Place). slice_get ps c.loop-run.left) (sym (walked runs index within))
    ∙ c.loop-run.invariant
