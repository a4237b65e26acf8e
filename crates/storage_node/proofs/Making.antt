-- Copies that are made one after another, and which copies there are of a span, and of all windows.
use Rattle.std.proofs.Common.{◌≡◌, ◌≢◌, ℕ, zero, suc, ◌+◌, ◌-◌, ◌≤◌, cond, eqb, List, [], ◌∷◌, ◌++◌, length, Some, refl, sym, ap, ◌∙◌, subst, arith}
use Rattle.std.specs.Prelude.{slice_get, slice_index}
use Rattle.std.proofs.lemmas.List.{append_assoc, append-nil, map-append}
use Rattle.std.proofs.lemmas.Bool.{cond-true, cond-false, eq-eqb, ne_eqb}
use Rattle.event_letters.specs.Letters.{HasSpace, letter, message_length}
use Rattle.history_frame.specs.declared.events.Sent.{Sent}
use Rattle.log_base.specs.ClusterShape.{Shape}
use Rattle.log_model.specs.Storage.{Member}
use Rattle.node_model.specs.Messages.{copy_message}
use Rattle.node_model.specs.StorageRow.{copies, copy_letter, windows}
use Rattle.node_table.specs.Numbering.{storage_node}
use Rattle.peer_copy.specs.Copying.{Copying, offsets_from, offsets_of, window_at}
use Rattle.record_frame.specs.declared.entries.Entry.{Entry}
use Rattle.storage_node.specs.Preparing.{IsLetter, Makes, Stock, sizes_of}
use Rattle.storage_node.proofs.Elements.{all-joined}

pub makes-none : (stock : Stock) → Makes [] stock stock
makes-none stock = record {
  copies = sym (append-nil stock.copies);
  letters = tt;
  space = λ sizes h. subst (λ (l : List ℕ). HasSpace stock.letters stock.rooms l) (sym (append-nil sizes)) h;
}

pub makes-then : (first second : List Sent) (a b c : Stock) → Makes first a b → Makes second b c → Makes (first ++ second) a c
makes-then first second a b c f g = record {
  copies = g.copies ∙ ap (λ (l : List Sent). l ++ second) f.copies ∙ append_assoc a.copies first second;
  letters = all-joined IsLetter first second f.letters g.letters;
  space = λ sizes h.
      subst (λ (l : List ℕ). HasSpace c.letters c.rooms l)
      (append_assoc sizes (sizes_of first) (sizes_of second) ∙ ap (λ (l : List ℕ). sizes ++ l) (sym (map-append (λ (sent : Sent). message_length sent.message) first second)))
      (g.space (sizes ++ sizes_of first) (f.space sizes h));
}

-- the copies of some offsets and of others
pub copies-append : (config : Shape) (member : Member) (own : List Entry) (peer : ℕ) (xs ys : List ℕ)
    → copies config member own peer (xs ++ ys) ≡ copies config member own peer xs ++ copies config member own peer ys
copies-append config member own peer [] ys = refl
copies-append config member own peer (x ∷ xs) ys =
    ap (λ (l : List Sent). copy_letter config member peer x (slice_get own x) ++ l) (copies-append config member own peer xs ys)
    ∙ sym (append_assoc (copy_letter config member peer x (slice_get own x)) (copies config member own peer xs) (copies config member own peer ys))

-- the copy of one offset
pub copies-one : (config : Shape) (member : Member) (own : List Entry) (peer offset : ℕ) (entry : Entry) → slice_get own offset ≡ Some entry
    → copies config member own peer (offset ∷ []) ≡ letter (storage_node config member.shard peer) (copy_message member.own offset entry) ∷ []
copies-one config member own peer offset entry there =
    append-nil (copy_letter config member peer offset (slice_get own offset)) ∙ ap (copy_letter config member peer offset) there

-- one offset more
pub offsets-push : (from count : ℕ) → offsets_from from (suc count) ≡ offsets_from from count ++ (from + count) ∷ []
offsets-push from zero = ap (λ (k : ℕ). k ∷ []) (omega arith)
offsets-push from (suc count) =
    ap (λ (l : List ℕ). from ∷ l) (offsets-push (suc from) count ∙ ap (λ (k : ℕ). offsets_from (suc from) count ++ k ∷ []) (omega arith))

pub copies-push : (config : Shape) (member : Member) (own : List Entry) (peer from at : ℕ) (entry : Entry) → from ≤ at → slice_get own at ≡ Some entry
    → copies config member own peer (offsets_from from (at - from)) ++ letter (storage_node config member.shard peer) (copy_message member.own at entry) ∷ []
    ≡ copies config member own peer (offsets_from from (at + 1 - from))
copies-push config member own peer from at entry le there =
    let next : suc (at - from) ≡ at + 1 - from = omega (arith, le) in
    let here : from + (at - from) ≡ at = omega (arith, le) in
    ap (λ (l : List Sent). copies config member own peer (offsets_from from (at - from)) ++ l) (sym (copies-one config member own peer at entry there))
    ∙ sym (copies-append config member own peer (offsets_from from (at - from)) (at ∷ []))
    ∙ ap (copies config member own peer) (ap (λ (k : ℕ). offsets_from from (at - from) ++ k ∷ []) (sym here) ∙ sym (offsets-push from (at - from)))
    ∙ ap (λ (k : ℕ). copies config member own peer (offsets_from from k)) next

-- the window of one peer more
pub windows-push : (config : Shape) (member : Member) (own : List Entry) (copying : Copying) (peer count : ℕ)
    → windows config member own copying peer count ++ windows config member own copying (peer + count) 1 ≡ windows config member own copying peer (count + 1)
windows-push config member own copying peer zero =
    let here : peer + zero ≡ peer = omega arith in
    ap (λ (k : ℕ). windows config member own copying k 1) here
windows-push config member own copying peer (suc count) =
    let one : List Sent = cond (eqb peer member.own) [] (copies config member own peer (offsets_of (window_at (slice_index copying.acked peer) (length own)))) in
    let next : peer + suc count ≡ suc peer + count = omega arith in
    let more : suc (count + 1) ≡ suc count + 1 = omega arith in
    append_assoc one (windows config member own copying (suc peer) count) (windows config member own copying (peer + suc count) 1)
    ∙ ap (λ (k : ℕ). one ++ (windows config member own copying (suc peer) count ++ windows config member own copying k 1)) next
    ∙ ap (λ (l : List Sent). one ++ l) (windows-push config member own copying (suc peer) count)
    ∙ ap (windows config member own copying peer) more

pub window-own : (config : Shape) (member : Member) (own : List Entry) (copying : Copying) (peer : ℕ) → peer ≡ member.own → windows config member own copying peer 1 ≡ []
window-own config member own copying peer same =
    append-nil (cond (eqb peer member.own) [] (copies config member own peer (offsets_of (window_at (slice_index copying.acked peer) (length own)))))
    ∙ cond-true (eqb peer member.own) [] (copies config member own peer (offsets_of (window_at (slice_index copying.acked peer) (length own)))) (eq-eqb peer member.own same)

pub window-other : (config : Shape) (member : Member) (own : List Entry) (copying : Copying) (peer : ℕ) → peer ≢ member.own
    → windows config member own copying peer 1 ≡ copies config member own peer (offsets_of (window_at (slice_index copying.acked peer) (length own)))
window-other config member own copying peer other =
    append-nil (cond (eqb peer member.own) [] (copies config member own peer (offsets_of (window_at (slice_index copying.acked peer) (length own)))))
    ∙ cond-false (eqb peer member.own) [] (copies config member own peer (offsets_of (window_at (slice_index copying.acked peer) (length own)))) (ne_eqb peer member.own other)
