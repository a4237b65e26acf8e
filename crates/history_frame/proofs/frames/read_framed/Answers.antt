use Rattle.std.proofs.Common.{◌≡◌, ℕ, ◌<◌, List, length, inl, inr, ⊎_elim, sym, ap, ◌∙◌, arith}
use Rattle.std.proofs.lemmas.Bool.{eqb-false}
use Rattle.log_base.specs.Wide.{number4}
use Rattle.log_base.proofs.Taking.{reads_then, takes_then}
use Rattle.history_frame.specs.Frames.{Means, IsNone}
use Rattle.history_frame.proofs.FrameLaws.{head_cut_short, wrong_number, body_cut_short, split_off, not_a_piece, is_a_piece}
use Rattle.history_frame.proofs.frames.read_framed.Goals as goal

pub returns-then-len-lt4-clause-finds : goal.returns-then-len-lt4-clause-finds
returns-then-len-lt4-clause-finds g c =
    let short : length c.take.new.bytes.items < 4 = omega arith in
    let some = eqb-false _ 0 (sym c.is_empty.ensures ∙ c.if-is_empty.false) in
    head_cut_short c.args.stage c.args.events _ _ _ c.in_ok-take.ensures.bytes (c.in_ok-take.ensures.short short) (omega arith) short

pub returns-then-length-eq0-clause-finds : goal.returns-then-length-eq0-clause-finds
returns-then-length-eq0-clause-finds g c =
    let four : length c.take.new.bytes.items ≡ 4 = omega (arith, c.in_ok-take.ensures.count) in
    let number : c.number_u32-length.result ≡ number4 c.take.new.bytes.items 0 = c.number_u32-length.ensures ∙ ap (λ (l : List ℕ). number4 l 0) c.deref.ensures.value in
    wrong_number c.args.stage c.args.events _ _ _ c.in_ok-take.ensures.bytes four (⊎_elim (λ zero. inl (sym number ∙ zero)) (λ above. inr (omega arith)) c.then-length-eq0.either)

pub returns-then-len-length-clause-finds : goal.returns-then-len-length-clause-finds
returns-then-len-length-clause-finds g c =
    let four : length c.take.new.bytes.items ≡ 4 = omega (arith, c.in_ok-take.ensures.count) in
    let number : c.number_u32-length.result ≡ number4 c.take.new.bytes.items 0 = c.number_u32-length.ensures ∙ ap (λ (l : List ℕ). number4 l 0) c.deref.ensures.value in
    let short : length c.take-2.new.bytes.items < c.number_u32-length.result = omega arith in
    body_cut_short c.args.stage c.args.events _ _ _ _ _ c.in_ok-take.ensures.bytes four c.in_ok-take-2.ensures.bytes (c.in_ok-take-2.ensures.short short) (omega arith)

-- the head was read, and then as much of the frame as there is
pub returns-in_err-take-2-clause-passes : goal.returns-in_err-take-2-clause-passes
returns-in_err-take-2-clause-passes g c = reads_then _ _ _ (_, c.in_ok-take.ensures.bytes) c.in_err-take-2.ensures.err

pub returns-in_err-take-2-clause-taken : goal.returns-in_err-take-2-clause-taken
returns-in_err-take-2-clause-taken g c = takes_then _ _ _ _ _ _ c.take.ensures.taken c.take-2.ensures.taken

pub returns-then-len-length-clause-passes : goal.returns-then-len-length-clause-passes
returns-then-len-length-clause-passes g c = reads_then _ _ _ (_, c.in_ok-take.ensures.bytes) (_, c.in_ok-take-2.ensures.bytes)

pub returns-then-len-length-clause-taken : goal.returns-then-len-length-clause-taken
returns-then-len-length-clause-taken g c = takes_then _ _ _ _ _ _ c.take.ensures.taken c.take-2.ensures.taken

pub returns-in-Ok-Some-clause-passes : goal.returns-in-Ok-Some-clause-passes
returns-in-Ok-Some-clause-passes g c = reads_then _ _ _ (_, c.in_ok-take.ensures.bytes) (_, c.in_ok-take-2.ensures.bytes)

pub returns-in-Ok-Some-clause-taken : goal.returns-in-Ok-Some-clause-taken
returns-in-Ok-Some-clause-taken g c = takes_then _ _ _ _ _ _ c.take.ensures.taken c.take-2.ensures.taken

pub returns-in-Ok-None-clause-passes : goal.returns-in-Ok-None-clause-passes
returns-in-Ok-None-clause-passes g c = reads_then _ _ _ (_, c.in_ok-take.ensures.bytes) (_, c.in_ok-take-2.ensures.bytes)

pub returns-in-Ok-None-clause-taken : goal.returns-in-Ok-None-clause-taken
returns-in-Ok-None-clause-taken g c = takes_then _ _ _ _ _ _ c.take.ensures.taken c.take-2.ensures.taken

pub returns-in-Err-clause-passes : goal.returns-in-Err-clause-passes
returns-in-Err-clause-passes g c = reads_then _ _ _ (_, c.in_ok-take.ensures.bytes) (_, c.in_ok-take-2.ensures.bytes)

pub returns-in-Err-clause-taken : goal.returns-in-Err-clause-taken
returns-in-Err-clause-taken g c = takes_then _ _ _ _ _ _ c.take.ensures.taken c.take-2.ensures.taken

pub returns-in-Ok-Some-clause-finds : goal.returns-in-Ok-Some-clause-finds
returns-in-Ok-Some-clause-finds g c =
    let four : length c.take.new.bytes.items ≡ 4 = omega (arith, c.in_ok-take.ensures.count) in
    let number : c.number_u32-length.result ≡ number4 c.take.new.bytes.items 0 = c.number_u32-length.ensures ∙ ap (λ (l : List ℕ). number4 l 0) c.deref.ensures.value in
    let whole : length c.take-2.new.bytes.items ≡ c.number_u32-length.result = omega (arith, c.in_ok-take-2.ensures.count) in
    let found = rw c.in-Ok-Some.field-0-is at c.in-Ok-Some.ensures in
    let means = split_off (λ kind body. Means c.args.stage c.args.events kind body c.find_piece.new.piece) c.take-2.new.bytes.items _ _ _ c.deref-2.ensures.value c.split_at.ensures.front c.split_at.ensures.back found in
    is_a_piece c.args.stage c.args.events _ _ _ _ _ c.find_piece.new.piece c.number_u32-length.result c.in_ok-take.ensures.bytes four c.in_ok-take-2.ensures.bytes number whole (omega arith) (omega arith) c.in_ok-take.ensures.fits means

pub returns-in-Ok-None-clause-finds : goal.returns-in-Ok-None-clause-finds
returns-in-Ok-None-clause-finds g c =
    let four : length c.take.new.bytes.items ≡ 4 = omega (arith, c.in_ok-take.ensures.count) in
    let number : c.number_u32-length.result ≡ number4 c.take.new.bytes.items 0 = c.number_u32-length.ensures ∙ ap (λ (l : List ℕ). number4 l 0) c.deref.ensures.value in
    let whole : length c.take-2.new.bytes.items ≡ c.number_u32-length.result = omega (arith, c.in_ok-take-2.ensures.count) in
    let found = rw c.in-Ok-None.field-0-is at c.in-Ok-None.ensures in
    let none = split_off (λ kind body. IsNone (Means c.args.stage c.args.events kind body)) c.take-2.new.bytes.items _ _ _ c.deref-2.ensures.value c.split_at.ensures.front c.split_at.ensures.back found in
    not_a_piece c.args.stage c.args.events _ _ _ _ _ c.in_ok-take.ensures.bytes four c.in_ok-take-2.ensures.bytes (whole ∙ number) (omega arith) none
