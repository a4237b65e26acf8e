use Rattle.std.proofs.Common.{◌++◌, ◌∷◌, [], ℕ, suc, drop, length, List, map, sym, ap, ◌∙◌, subst, arith, rules}
use Rattle.std.specs.List.{AllByRecursion}
use Rattle.std.proofs.lemmas.List.{append_assoc, append-nil, map-append}
use Rattle.std.proofs.lemmas.Iterator.Adapters.{YieldsList-from_vec}
use Rattle.std.proofs.lemmas.Iterator.Consumers.{YieldsList-so_far, YieldsList-turn, YieldsList-end}
use Rattle.event_letters.specs.Letters.{HasSpace, message_length}
use Rattle.history_frame.specs.declared.events.Sent.{Sent}
use Rattle.node_model.specs.Machine.{posted}
use Rattle.storage_node.specs.Preparing.{IsLetter, sizes_of}
use Rattle.storage_node.proofs.Elements.{all-back, split-here, taken-all}
use Rattle.storage_node.proofs.Spaces.{space-front}
use Rattle.storage_node.proofs.sending.send_all.Goals as goal

pub loop-sent-init : goal.loop-sent-init
loop-sent-init c = record { sent = sym (append-nil _); letters = sym (append-nil _); space = λ others sizes h. h }

pub send-requires-clause-message : goal.send-requires-clause-message
send-requires-clause-message c =
    let road = YieldsList-from_vec {s = c.into_iter-sent-iterator.result} c.args.made.items (search rules) (search rules) in
    let so_far = YieldsList-so_far road c.loop-sent.yielded c.loop-sent.sent-iterator c.loop-sent.yielded_by in
    let turn = YieldsList-turn road c.loop-sent.yielded c.loop-sent.sent-iterator c.loop-sent.yielded_by c.next.result c.next.new.self c.in-Some.sent c.in-Some.is c.next.ensures.steps in
    let whole = split-here c.loop-sent.yielded c.args.made.items c.in-Some.sent so_far turn.0 turn.1 in
    (all-back IsLetter c.loop-sent.yielded (c.in-Some.sent ∷ drop (suc (length c.loop-sent.yielded)) c.args.made.items)
    (subst (λ (l : List Sent). AllByRecursion IsLetter l) whole c.requires.letters)).0.0

pub send-requires-clause-space : goal.send-requires-clause-space
send-requires-clause-space c =
    let road = YieldsList-from_vec {s = c.into_iter-sent-iterator.result} c.args.made.items (search rules) (search rules) in
    let so_far = YieldsList-so_far road c.loop-sent.yielded c.loop-sent.sent-iterator c.loop-sent.yielded_by in
    let turn = YieldsList-turn road c.loop-sent.yielded c.loop-sent.sent-iterator c.loop-sent.yielded_by c.next.result c.next.new.self c.in-Some.sent c.in-Some.is c.next.ensures.steps in
    let whole = split-here c.loop-sent.yielded c.args.made.items c.in-Some.sent so_far turn.0 turn.1 in
    let rest = drop (suc (length c.loop-sent.yielded)) c.args.made.items in
    let room : HasSpace c.args.letters.now c.args.out.now.rooms (sizes_of (c.loop-sent.yielded ++ c.in-Some.sent ∷ rest) ++ []) =
    subst (λ (l : List Sent). HasSpace c.args.letters.now c.args.out.now.rooms (sizes_of l ++ [])) whole
    (subst (λ (l : List ℕ). HasSpace c.args.letters.now c.args.out.now.rooms l) (sym (append-nil (sizes_of c.args.made.items))) c.requires.space) in
    space-front c.loop-sent.letters c.loop-sent.out.rooms (message_length c.in-Some.sent.message ∷ []) (sizes_of rest ++ [])
    (c.loop-sent.invariant.space (c.in-Some.sent ∷ rest) [] room)

pub loop-sent-preserved : goal.loop-sent-preserved
loop-sent-preserved c = record {
  sent = c.send.ensures.sent ∙ ap (λ (l : List Sent). l ++ c.in-Some.sent ∷ []) c.loop-sent.invariant.sent ∙ append_assoc c.args.letters.now.sent c.loop-sent.yielded (c.in-Some.sent ∷ []);
  letters = c.send.ensures.letters ∙ ap (λ (l : List (ℕ × List ℕ)). l ++ posted c.in-Some.sent ∷ []) c.loop-sent.invariant.letters
      ∙ append_assoc c.args.out.now.letters (map posted c.loop-sent.yielded) (posted c.in-Some.sent ∷ [])
      ∙ ap (λ (l : List (ℕ × List ℕ)). c.args.out.now.letters ++ l) (sym (map-append posted c.loop-sent.yielded (c.in-Some.sent ∷ [])));
  space = λ others sizes h.
      c.send.ensures.space (message_length c.in-Some.sent.message) (sizes_of others ++ sizes) (omega arith)
      (c.loop-sent.invariant.space (c.in-Some.sent ∷ others) sizes
      (subst (λ (l : List Sent). HasSpace c.args.letters.now c.args.out.now.rooms (sizes_of l ++ sizes)) (append_assoc c.loop-sent.yielded (c.in-Some.sent ∷ []) others) h));
}

pub returns-clause-sent : goal.returns-clause-sent
returns-clause-sent c =
    let road = YieldsList-from_vec {s = c.into_iter-sent-iterator.result} c.args.made.items (search rules) (search rules) in
    let end = YieldsList-end road c.loop-sent.yielded c.loop-sent.sent-iterator c.loop-sent.yielded_by c.next.result c.next.new.self c.in-None.is c.next.ensures.steps in
    let all = taken-all c.loop-sent.yielded c.args.made.items end.0 in
    c.loop-sent.invariant.sent ∙ ap (λ (l : List Sent). c.args.letters.now.sent ++ l) all

pub returns-clause-letters : goal.returns-clause-letters
returns-clause-letters c =
    let road = YieldsList-from_vec {s = c.into_iter-sent-iterator.result} c.args.made.items (search rules) (search rules) in
    let end = YieldsList-end road c.loop-sent.yielded c.loop-sent.sent-iterator c.loop-sent.yielded_by c.next.result c.next.new.self c.in-None.is c.next.ensures.steps in
    let all = taken-all c.loop-sent.yielded c.args.made.items end.0 in
    c.loop-sent.invariant.letters ∙ ap (λ (l : List Sent). c.args.out.now.letters ++ map posted l) all

pub returns-clause-space : goal.returns-clause-space
returns-clause-space c = λ sizes h.
    let road = YieldsList-from_vec {s = c.into_iter-sent-iterator.result} c.args.made.items (search rules) (search rules) in
    let end = YieldsList-end road c.loop-sent.yielded c.loop-sent.sent-iterator c.loop-sent.yielded_by c.next.result c.next.new.self c.in-None.is c.next.ensures.steps in
    let all = taken-all c.loop-sent.yielded c.args.made.items end.0 in
    c.loop-sent.invariant.space [] sizes
    (subst (λ (l : List Sent). HasSpace c.args.letters.now c.args.out.now.rooms (sizes_of l ++ sizes)) (sym (append-nil c.loop-sent.yielded ∙ all)) h)
