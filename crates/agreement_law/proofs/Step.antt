-- An event keeps the whole: one node is replaced and letters are added.
use Rattle.std.proofs.Common.{◌≡◌, ℕ, true, false, ◌==◌, List, [], ◌∷◌, ◌++◌, refl, sym, ap, subst, inl, inr, ⊎_elim, eqb-true, eq-eqb}
use Rattle.std.proofs.lemmas.Bool.{cond_both, cond-true, cond-false}
use Rattle.std.specs.List.{AllByRecursion}
use Rattle.history_frame.specs.declared.events.Sent.{Sent}
use Rattle.message_frame.specs.declared.messages.Message.{Message}
use Rattle.message_frame.specs.declared.messages.Message.TheVariants.{Copy, CopyAck, Report, Least, Prepare, Promised, Lower, Accept, Accepted, Decide, Want}
use Rattle.message_frame.specs.declared.messages.Vote.{Vote}
use Rattle.paxos_model.specs.Votes.{Payload}
use Rattle.node_model.specs.OrdererLegal.{IsOther, IsOtherLetter}
use Rattle.node_model.specs.OrdererNode.{Node, Outcome}
use Rattle.agreement_law.specs.Elements.{In}
use Rattle.agreement_law.specs.Invariant.{Holds, IsGoodMode, IsTrueMessage, Keeps, lists_of}
use Rattle.agreement_law.specs.World.{replaced}
use Rattle.agreement_law.proofs.Elements.{in_append}
use Rattle.agreement_law.proofs.Grows.{Extends, Grow, extends_refl, message_adds, message_grows, mode_adds, mode_grows}
use Rattle.agreement_law.proofs.Moves.{Moves}
use Rattle.agreement_law.proofs.Outcomes.{Stepped}

-- only the replaced node's list changed
pub replaced_grow : (node : ℕ → Node) (ps : List Vote) (i : ℕ) (new : Node) → Extends ps (node i).durable new.durable → Grow ps (lists_of node) (lists_of (replaced node i new))
replaced_grow node ps i new e j =
    cond_both (j == i) new (node j) (λ (nd : Node). Extends ps (node j).durable nd.durable)
    (λ t. subst (λ k. Extends ps (node k).durable new.durable) (sym (eqb-true j i t)) e)
    (λ t. extends_refl ps (node j).durable)

replaced_here : (node : ℕ → Node) (i : ℕ) (new : Node) → replaced node i new i ≡ new
replaced_here node i new = cond-true (i == i) new (node i) (eq-eqb i i refl)

-- the one place where all nodes are spoken of
pub install : (n : ℕ) (node : ℕ → Node) (letters : List Sent) (ps : List Vote) (i : ℕ) (out : Outcome) → Keeps n node letters ps
    → Stepped n (lists_of node) ps i out → Holds n (replaced node i out.node) (letters ++ out.outputs)
install n node letters ps i out k s = (
  moved.proposals,
  record {
    global = moved.global;
    letters_true = λ t a. ⊎_elim (λ c. old t c) (λ c. moved.told t c) (in_append t letters out.outputs a);
    modes = modes;
  },
)
  where
    now : ℕ → List Payload
    now = lists_of (replaced node i out.node)

    grow : Grow ps (lists_of node) (lists_of (replaced node i out.node))
    grow = replaced_grow node ps i out.node s.extends

    moved : Moves n (lists_of (replaced node i out.node)) ps i out.node.mode out.outputs
    moved = s.moves (lists_of (replaced node i out.node)) grow (ap (λ (nd : Node). nd.durable) (replaced_here node i out.node))

    old : (t : Sent) → In t letters → IsTrueMessage n (lists_of (replaced node i out.node)) moved.proposals t.message
    old t a = message_adds n i ps moved.proposals moved.adds (lists_of (replaced node i out.node)) t.message
        (message_grows n ps (lists_of node) (lists_of (replaced node i out.node)) grow t.message (k.letters_true t a))

    here : (j : ℕ) → j ≡ i → IsGoodMode n (lists_of (replaced node i out.node)) moved.proposals j out.node.mode
    here j e = subst (λ k. IsGoodMode n (lists_of (replaced node i out.node)) moved.proposals k out.node.mode) (sym e) moved.mode

    there : (j : ℕ) → (j == i) ≡ false → IsGoodMode n (lists_of (replaced node i out.node)) moved.proposals j (node j).mode
    there j e =
        let other : j ≡ i → ⊥ = λ same. absurd (let yes : (j == i) ≡ true = eq-eqb j i same in cc) in
        mode_adds n i ps moved.proposals moved.adds (lists_of (replaced node i out.node)) j (node j).mode other
        (mode_grows n ps (lists_of node) (lists_of (replaced node i out.node)) grow j
        (ap (λ (nd : Node). nd.durable) (cond-false (j == i) out.node (node j) e)) (node j).mode (k.modes j))

    modes : (j : ℕ) → IsGoodMode n (lists_of (replaced node i out.node)) moved.proposals j (replaced node i out.node j).mode
    modes j = cond_both (j == i) out.node (node j) (λ (nd : Node). IsGoodMode n (lists_of (replaced node i out.node)) moved.proposals j nd.mode)
        (λ e. here j (eqb-true j i e)) (λ e. there j e)

other_true : (n : ℕ) (lists : ℕ → List Payload) (ps : List Vote) (m : Message) → IsOther m → IsTrueMessage n lists ps m
other_true n lists ps (Copy segment offset entry) h = tt
other_true n lists ps (CopyAck peer held) h = tt
other_true n lists ps (Report shard replica lengths) h = tt
other_true n lists ps (Least shard lengths) h = tt
other_true n lists ps (Want from node) h = tt
other_true n lists ps (Prepare b f) h = absurd h
other_true n lists ps (Promised b f w vs) h = absurd h
other_true n lists ps (Lower b p) h = absurd h
other_true n lists ps (Accept b k v) h = absurd h
other_true n lists ps (Accepted b k w) h = absurd h
other_true n lists ps (Decide k v) h = absurd h

others_true : (n : ℕ) (lists : ℕ → List Payload) (ps : List Vote) (outs : List Sent) → AllByRecursion IsOtherLetter outs → (s : Sent) → In s outs → IsTrueMessage n lists ps s.message
others_true n lists ps [] h s a = absurd a
others_true n lists ps (t ∷ outs) h s (inl e) = subst (λ (w : Sent). IsTrueMessage n lists ps w.message) (sym e) (other_true n lists ps t.message h.0)
others_true n lists ps (t ∷ outs) h s (inr a) = others_true n lists ps outs h.1 s a

-- an event at a node that is no orderer
pub free_step : (n : ℕ) (node : ℕ → Node) (letters outs : List Sent) → Holds n node letters → AllByRecursion IsOtherLetter outs → Holds n node (letters ++ outs)
free_step n node letters outs h free = (
  h.0,
  record {
    global = h.1.global;
    letters_true = λ t a. ⊎_elim (λ c. h.1.letters_true t c) (λ c. others_true n (lists_of node) h.0 outs free t c) (in_append t letters outs a);
    modes = h.1.modes;
  },
)

-- of fewer letters all holds too
pub fewer_letters : (n : ℕ) (node : ℕ → Node) (letters fewer : List Sent) → ((s : Sent) → In s fewer → In s letters) → Holds n node letters → Holds n node fewer
fewer_letters n node letters fewer f h = (
  h.0,
  record {
    global = h.1.global;
    letters_true = λ s a. h.1.letters_true s (f s a);
    modes = h.1.modes;
  },
)
