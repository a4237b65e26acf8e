use Rattle.std.proofs.Common.{arith, ◌≡◌, ◌<◌, ◌+◌, ◌++◌, ◌∷◌, [], ℕ, List, length, take, slice_get, Some, sym, ap, ◌∙◌, subst, get_or-set_other, length-set, length-take-le}
use Rattle.std.proofs.lemmas.List.{take_more}
use Rattle.std.proofs.lemmas.Option.{slice_get-get_or}
use Rattle.log_base.specs.Outgoing.{letter_at}
use Rattle.cluster.specs.Posting.{AllGoOut, GoesOut, output_letter}
use Rattle.cluster.proofs.GoingOut.{mail_more, one_more_out}
use Rattle.cluster.proofs.posting.post_all.Goals as goal

pub post_one-sending-requires-clause-table : goal.post_one-sending-requires-clause-table
post_one-sending-requires-clause-table g c = c.loop-index.invariant.table ∙ c.requires.table

pub post_one-sending-requires-clause-output : goal.post_one-sending-requires-clause-output
post_one-sending-requires-clause-output g c =
    let o = c.requires.outputs in let i = c.loop-index.index in let inv = c.loop-index.invariant in
    let here : letter_at i c.loop-index.out.letters ≡ letter_at i c.args.out.now.letters = inv.rest i (omega arith) in
    let within : i < length c.args.out.now.letters = omega arith in
    let to = c.to-to.ensures ∙ ap (λ (x : ℕ × List ℕ). x.0) here in
    let bytes = c.of.ensures ∙ (c.take.ensures.bytes ∙ ap (λ (x : ℕ × List ℕ). x.1) here) in (
      o.0,
      o.1,
      (λ j. slice_get (inv.mail j).0.own o.0) ∙ o.2,
      o.3,
      (λ j. slice_get (o.4 j) i) ∙ (slice_get-get_or c.args.out.now.letters i (0, []) within ∙ (λ j. Some (sym to j, sym bytes j))),
    )

pub loop-index-preserved : goal.loop-index-preserved
loop-index-preserved g c =
    let inv = c.loop-index.invariant in let i = c.loop-index.index in let one = c.post_one-sending.ensures in
    let letters = c.args.out.now.letters in let old = c.args.pass.now.seat.me in let between = c.loop-index.pass.seat.me in let new = c.post_one-sending.new.pass.seat.me in
    let within : i < length letters = omega arith in
    let output = letter_at i letters in
    let here : letter_at i c.loop-index.out.letters ≡ output = inv.rest i (omega arith) in
    let to = c.to-to.ensures ∙ ap (λ (x : ℕ × List ℕ). x.0) here in
    let bytes = c.of.ensures ∙ (c.take.ensures.bytes ∙ ap (λ (x : ℕ × List ℕ). x.1) here) in
    let len : length (take i letters) ≡ i = length-take-le i letters (omega arith) in
    let at : i ≡ 0 + length (take i letters) = omega arith in
    let goes : GoesOut c.args.nodes output.0 (output_letter c.args.place (0 + length (take i letters)) output) between new c.post_one-sending.result =
    subst (λ (x : ℕ × ℕ × List ℕ). GoesOut c.args.nodes x.0 (record { place = c.args.place; index = x.1; bytes = x.2 }) between new c.post_one-sending.result) (λ j. (to j, at j, bytes j)) one.goes in
    record {
      table = one.same.0 ∙ inv.table;
      account = one.same.1 ∙ inv.account;
      size = (λ j. length (c.take.ensures.after j).letters) ∙ (length-set c.loop-index.out.letters i ((letter_at i c.loop-index.out.letters).0, []) ∙ inv.size);
      rest = λ k above. (λ j. letter_at k (c.take.ensures.after j).letters)
          ∙ (get_or-set_other c.loop-index.out.letters i k ((letter_at i c.loop-index.out.letters).0, []) (0, []) (λ e. omega arith) ∙ inv.rest k (omega arith));
      few = omega arith;
      mail = mail_more old between new inv.mail one.mail;
      out = subst (λ (l : List (ℕ × List ℕ)). AllGoOut c.args.nodes c.args.place 0 l old new (c.loop-index.lost + c.lost-lost.result)) (sym (take_more letters i (0, []) within))
          (subst (λ (n : ℕ). AllGoOut c.args.nodes c.args.place 0 (take i letters ++ output ∷ []) old new (c.loop-index.lost + n)) (sym c.lost-lost.ensures.lost)
          (one_more_out c.args.nodes c.args.place 0 (take i letters) output old between new c.loop-index.lost c.post_one-sending.result inv.out goes));
    }
