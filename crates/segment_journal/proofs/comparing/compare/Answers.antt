use Rattle.std.proofs.Common.{◌≡◌, ◌≢◌, ◌+◌, ◌<◌, ◌≤◌, ◌++◌, ℕ, List, length, Option, None, Some, option_to_list, refl, sym, ap, ◌∙◌, subst, arith}
use Rattle.std.specs.Option.{option_copied}
use Rattle.segment_journal.specs.Comparing.{IsDifferent}
use Rattle.segment_journal.proofs.Comparisons.{different-inside, different-behind, different-flight, different-more, one-more-list}
use Rattle.segment_journal.proofs.comparing.compare.Goals as goal

-- at this place, with this in flight
told : (read kept : List (List ℕ)) (flight flight' : Option (List ℕ)) (place at : ℕ) → flight ≡ flight' → at ≡ place → IsDifferent read kept flight' place → IsDifferent read kept flight at
told read kept flight flight' place at same here different =
    subst (λ (f : Option (List ℕ)). IsDifferent read kept f at) (sym same) (subst (λ (n : ℕ). IsDifferent read kept flight' n) (sym here) different)

pub returns-then-same-len-clause-err : goal.returns-then-same-len-clause-err
returns-then-same-len-clause-err c =
    let a = c.agreeing-same.ensures in
    let inside : c.agreeing-same.result < length c.args.kept.now.list = omega (arith, c.if-same-len.true, c.len.ensures.len) in
    told _ _ _ (option_copied c.args.flight) _ _ refl c.place.ensures (different-inside c.args.read.now.list c.args.kept.now.list c.agreeing-same.result a.read inside a.same a.differs (option_copied c.args.flight))

pub returns-in_default-clause-err : goal.returns-in_default-clause-err
returns-in_default-clause-err c =
    let a = c.agreeing-same.ensures in
    let size : c.agreeing-same.result ≡ length c.args.kept.now.list = omega (arith, a.kept, c.if-same-len.false, c.len.ensures.len) in
    let longer : c.agreeing-same.result < length c.args.read.now.list = omega (arith, a.read, c.if-same-len-2.false, c.len-2.ensures.len) in
    told _ _ _ None _ _ (ap option_copied c.in_default.is) c.place-in_default.ensures (different-behind c.args.read.now.list c.args.kept.now.list c.agreeing-same.result size a.same longer)

pub returns-then-not-is_same-clause-err : goal.returns-then-not-is_same-clause-err
returns-then-not-is_same-clause-err c =
    let a = c.agreeing-same.ensures in
    let size : c.agreeing-same.result ≡ length c.args.kept.now.list = omega (arith, a.kept, c.if-same-len.false, c.len.ensures.len) in
    let other : c.get.result.now ≢ c.in-Some.flight.now = λ is. cc (c.is_same.ensures.1 (is ∙ sym c.get-2.ensures), c.if-not-is_same.true) in
    told _ _ _ (Some c.in-Some.flight.now) _ _ (ap option_copied c.in-Some.is) c.place-then-not-is_same.ensures
    (different-flight c.args.read.now.list c.args.kept.now.list c.agreeing-same.result c.get.result.now c.in-Some.flight.now size a.same c.get.ensures.payload other)

pub returns-then-same-len-3-clause-err : goal.returns-then-same-len-3-clause-err
returns-then-same-len-3-clause-err c =
    let a = c.agreeing-same.ensures in
    let size : c.agreeing-same.result ≡ length c.args.kept.now.list = omega (arith, a.kept, c.if-same-len.false, c.len.ensures.len) in
    let same : c.get.result.now ≡ c.in-Some.flight.now = c.is_same.ensures.0 c.if-not-is_same.false ∙ c.get-2.ensures in
    let longer : c.agreeing-same.result + 1 < length c.args.read.now.list = omega (arith, c.if-same-len-3.true, c.len-3.ensures.len) in
    told _ _ _ (Some c.in-Some.flight.now) _ _ (ap option_copied c.in-Some.is) c.place-then-same-len-3.ensures
    (different-more c.args.read.now.list c.args.kept.now.list c.agreeing-same.result c.get.result.now c.in-Some.flight.now size a.same c.get.ensures.payload same longer)

pub returns-clause-ok : goal.returns-clause-ok
returns-clause-ok c =
    let a = c.agreeing-same.ensures in
    let size : c.agreeing-same.result ≡ length c.args.kept.now.list = omega (arith, a.kept, c.if-same-len.false, c.len.ensures.len) in
    let same : c.get.result.now ≡ c.in-Some.flight.now = c.is_same.ensures.0 c.if-not-is_same.false ∙ c.get-2.ensures in
    let most : length c.args.read.now.list ≤ c.agreeing-same.result + 1 = omega (arith, c.if-same-len-3.false, c.len-3.ensures.len) in
    one-more-list c.args.read.now.list c.args.kept.now.list c.agreeing-same.result c.get.result.now c.in-Some.flight.now size a.same c.get.ensures.payload same most
    ∙ ap (λ (o : Option (List ℕ)). c.args.kept.now.list ++ option_to_list o) (sym (ap option_copied c.in-Some.is))
