use Rattle.std.proofs.Common.{◌≡◌, ℕ, ◌<◌, List, None, Some, length, get_or, drop, inl, inr, ⊎_elim, sym, ap, ◌∙◌, subst, arith}
use Rattle.std.proofs.lemmas.Bool.{eqb-false}
use Rattle.log_base.specs.Shape.{shape}
use Rattle.log_base.specs.Wide.{number4}
use Rattle.log_base.proofs.Taking.{reads_then, takes_then}
use Rattle.command_frame.specs.Items.{IsReading}
use Rattle.command_frame.proofs.FrameLaws.{head_cut_short, wrong_number, body_cut_short, not_an_item, is_an_item}
use Rattle.command_frame.proofs.frames.read_framed.Goals as goal

pub returns-then-len-lt4-clause-finds : goal.returns-then-len-lt4-clause-finds
returns-then-len-lt4-clause-finds g c =
    let short : length c.in_ok-head.head.items < 4 = omega arith in
    let some = eqb-false _ 0 (sym c.is_empty.ensures ∙ c.if-is_empty.false) in
    head_cut_short (shape c.args.config.now) _ _ _ c.args.config.now.in_range c.in_ok-head.ensures.bytes (c.in_ok-head.ensures.short short) (omega arith) short

pub returns-then-length-eq0-clause-finds : goal.returns-then-length-eq0-clause-finds
returns-then-length-eq0-clause-finds g c =
    let four : length c.in_ok-head.head.items ≡ 4 = omega (arith, c.in_ok-head.ensures.count) in
    let number : c.number_u32-length.result ≡ number4 c.in_ok-head.head.items 0 = c.number_u32-length.ensures ∙ ap (λ (l : List ℕ). number4 l 0) c.deref.ensures.value in
    wrong_number (shape c.args.config.now) _ _ _ c.args.config.now.in_range c.in_ok-head.ensures.bytes four (⊎_elim (λ zero. inl (sym number ∙ zero)) (λ above. inr (omega arith)) c.then-length-eq0.either)

pub returns-then-len-length-clause-finds : goal.returns-then-len-length-clause-finds
returns-then-len-length-clause-finds g c =
    let four : length c.in_ok-head.head.items ≡ 4 = omega (arith, c.in_ok-head.ensures.count) in
    let number : c.number_u32-length.result ≡ number4 c.in_ok-head.head.items 0 = c.number_u32-length.ensures ∙ ap (λ (l : List ℕ). number4 l 0) c.deref.ensures.value in
    let short : length c.in_ok-frame.frame.items < c.number_u32-length.result = omega arith in
    body_cut_short (shape c.args.config.now) _ _ _ _ _ c.args.config.now.in_range c.in_ok-head.ensures.bytes four c.in_ok-frame.ensures.bytes (c.in_ok-frame.ensures.short short) (omega arith)

pub returns-in-Some-clause-finds : goal.returns-in-Some-clause-finds
returns-in-Some-clause-finds g c =
    let four : length c.in_ok-head.head.items ≡ 4 = omega (arith, c.in_ok-head.ensures.count) in
    let number : c.number_u32-length.result ≡ number4 c.in_ok-head.head.items 0 = c.number_u32-length.ensures ∙ ap (λ (l : List ℕ). number4 l 0) c.deref.ensures.value in
    let whole : length c.in_ok-frame.frame.items ≡ c.number_u32-length.result = omega (arith, c.in_ok-frame.ensures.count) in
    let found : IsReading (shape c.args.config.now) (get_or c.in_ok-frame.frame.items 0 0) (drop 1 c.in_ok-frame.frame.items) (Some c.in-Some.item) =
    subst (λ (l : List ℕ). IsReading (shape c.args.config.now) (get_or l 0 0) (drop 1 l) (Some c.in-Some.item)) c.deref-2.ensures.value
    (subst (IsReading (shape c.args.config.now) _ _) c.in-Some.is c.in_ok-item.ensures) in
    is_an_item (shape c.args.config.now) _ _ _ _ _ c.in-Some.item _ c.args.config.now.in_range c.in_ok-head.ensures.bytes four c.in_ok-frame.ensures.bytes (whole ∙ number) (omega arith)
    c.in_ok-head.ensures.fits found (omega arith)

pub returns-clause-finds : goal.returns-clause-finds
returns-clause-finds g c =
    let four : length c.in_ok-head.head.items ≡ 4 = omega (arith, c.in_ok-head.ensures.count) in
    let number : c.number_u32-length.result ≡ number4 c.in_ok-head.head.items 0 = c.number_u32-length.ensures ∙ ap (λ (l : List ℕ). number4 l 0) c.deref.ensures.value in
    let whole : length c.in_ok-frame.frame.items ≡ c.number_u32-length.result = omega (arith, c.in_ok-frame.ensures.count) in
    let none : IsReading (shape c.args.config.now) (get_or c.in_ok-frame.frame.items 0 0) (drop 1 c.in_ok-frame.frame.items) None =
    subst (λ (l : List ℕ). IsReading (shape c.args.config.now) (get_or l 0 0) (drop 1 l) None) c.deref-2.ensures.value
    (subst (IsReading (shape c.args.config.now) _ _) c.in-None.is c.in_ok-item.ensures) in
    not_an_item (shape c.args.config.now) _ _ _ _ _ c.args.config.now.in_range c.in_ok-head.ensures.bytes four c.in_ok-frame.ensures.bytes (whole ∙ number) (omega arith) none

-- the head was read, and then as much of the frame as there is
pub returns-in_err-frame-clause-passes : goal.returns-in_err-frame-clause-passes
returns-in_err-frame-clause-passes g c = reads_then _ _ _ (_, c.in_ok-head.ensures.bytes) c.in_err-frame.ensures.err

pub returns-in_err-frame-clause-taken : goal.returns-in_err-frame-clause-taken
returns-in_err-frame-clause-taken g c = takes_then _ _ _ _ _ _ c.take.ensures.taken c.take-2.ensures.taken

pub returns-then-len-length-clause-passes : goal.returns-then-len-length-clause-passes
returns-then-len-length-clause-passes g c = reads_then _ _ _ (_, c.in_ok-head.ensures.bytes) (_, c.in_ok-frame.ensures.bytes)

pub returns-then-len-length-clause-taken : goal.returns-then-len-length-clause-taken
returns-then-len-length-clause-taken g c = takes_then _ _ _ _ _ _ c.take.ensures.taken c.take-2.ensures.taken

pub returns-in_err-item-clause-passes : goal.returns-in_err-item-clause-passes
returns-in_err-item-clause-passes g c = reads_then _ _ _ (_, c.in_ok-head.ensures.bytes) (_, c.in_ok-frame.ensures.bytes)

pub returns-in_err-item-clause-taken : goal.returns-in_err-item-clause-taken
returns-in_err-item-clause-taken g c = takes_then _ _ _ _ _ _ c.take.ensures.taken c.take-2.ensures.taken

pub returns-in-Some-clause-passes : goal.returns-in-Some-clause-passes
returns-in-Some-clause-passes g c = reads_then _ _ _ (_, c.in_ok-head.ensures.bytes) (_, c.in_ok-frame.ensures.bytes)

pub returns-in-Some-clause-taken : goal.returns-in-Some-clause-taken
returns-in-Some-clause-taken g c = takes_then _ _ _ _ _ _ c.take.ensures.taken c.take-2.ensures.taken

pub returns-clause-passes : goal.returns-clause-passes
returns-clause-passes g c = reads_then _ _ _ (_, c.in_ok-head.ensures.bytes) (_, c.in_ok-frame.ensures.bytes)

pub returns-clause-taken : goal.returns-clause-taken
returns-clause-taken g c = takes_then _ _ _ _ _ _ c.take.ensures.taken c.take-2.ensures.taken
