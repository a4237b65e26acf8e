use Rattle.std.proofs.Common.{◌≡◌, ◌<◌, ◌-◌, ◌+◌, ℕ, List, length, take, drop, get_or, Some, None, suc, sym, ap, subst, ◌∙◌, arith, length-append}
use Rattle.std.specs.Option.{option_map}
use Rattle.log_model.proofs.Runs.{length-places_from}
use Rattle.log_model.proofs.Times.{times}
use Rattle.cut_chain.specs.declared.runs.Run.{Run}
use Rattle.cut_chain.specs.Runs.{offset_in, places_of, run_places, to_position}
use Rattle.cut_chain.proofs.Newest.{found_in, found_nowhere, front, in_parts, not_from}
use Rattle.cut_chain.proofs.Walks.{no_run}
use Rattle.cut_chain.proofs.walking.position_in.Goals as goal

-- how many places lie before the newest of the runs that were not looked at
before_run : (runs : List Run) (start back : ℕ) → back < length runs → start ≡ length (places_of (take (length runs - back) runs))
    → start ≡ length (places_of (take (length runs - 1 - back) runs)) + (get_or runs (length runs - 1 - back) no_run).count
before_run runs start back within at =
    let n = length runs - 1 - back in
    let run = get_or runs n no_run in
    let next : length runs - back ≡ suc n = omega (arith, within) in
    let whole = at ∙ ap (λ (k : ℕ). length (places_of (take k runs))) next ∙ ap length (front runs n (omega (arith, within))) in
    omega (arith, whole, length-append (places_of (take n runs)) (run_places run), length-places_from run.shard.0 run.segment.0 run.first run.count)

pub overflow_sub-start : goal.overflow_sub-start
overflow_sub-start c =
    omega (arith, before_run c.args.runs.now c.loop-back.start c.loop-back.back c.loop-back-test.true c.loop-back.invariant.before, c.from-start.ensures)

pub returns-in-Some : goal.returns-in-Some
returns-in-Some c =
    let runs = c.args.runs.now in
    let n = length runs - 1 - c.loop-back.back in
    let found : offset_in (get_or runs n no_run) c.args.place ≡ Some c.in-Some.index = sym c.index.ensures ∙ c.in-Some.is in
    let start = c.loop-back.start - c.from-start.result in
    let at : start ≡ length (places_of (take n runs)) =
    omega (arith, before_run runs c.loop-back.start c.loop-back.back c.loop-back-test.true c.loop-back.invariant.before, c.from-start.ensures) in
    let stands = found_in runs c.args.total n start c.in-Some.index c.args.place c.requires (omega (arith, c.loop-back-test.true)) at (in_parts runs n) found in
    ap (λ (k : ℕ). Some (to_position (start + k))) c.from.ensures ∙ ap (option_map to_position) (sym stands)

pub loop-back-preserved : goal.loop-back-preserved
loop-back-preserved c =
    let runs = c.args.runs.now in
    let n = length runs - 1 - c.loop-back.back in
    let none : offset_in (get_or runs n no_run) c.args.place ≡ None = sym c.index.ensures ∙ c.in_default.is in
    let less : n ≡ length runs - (c.loop-back.back + 1) = omega arith in
    let next : length runs - c.loop-back.back ≡ n + 1 = omega (arith, c.loop-back-test.true) in
    let at : c.loop-back.start - c.from-start.result ≡ length (places_of (take n runs)) =
    omega (arith, before_run runs c.loop-back.start c.loop-back.back c.loop-back-test.true c.loop-back.invariant.before, c.from-start.ensures) in
    let behind = subst (λ (k : ℕ). times (places_of (drop k runs)) c.args.place ≡ 0) next c.loop-back.invariant.not_yet in
    record {
      before = at ∙ ap (λ (k : ℕ). length (places_of (take k runs))) less;
      not_yet = subst (λ (k : ℕ). times (places_of (drop k runs)) c.args.place ≡ 0) less (not_from runs n c.args.place (omega (arith, c.loop-back-test.true)) none behind);
    }

-- all runs were looked at
pub returns : goal.returns
returns c =
    let runs = c.args.runs.now in
    let all : length runs - c.loop-back.back ≡ 0 = omega (arith, c.loop-back-test.false) in
    ap (option_map to_position)
    (sym (found_nowhere runs c.args.place (subst (λ (k : ℕ). times (places_of (drop k runs)) c.args.place ≡ 0) all c.loop-back.invariant.not_yet)))
