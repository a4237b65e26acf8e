-- What holds of all that a node of a role stores, if it holds of what its rows put.
use Rattle.std.proofs.Common.{◌≡◌, Option, Some, None, sym, subst}
use Rattle.history_frame.specs.declared.inputs.Input.{Input}
use Rattle.history_frame.specs.declared.inputs.Mark.{Mark}
use Rattle.node_model.specs.Marks.{ChangeOf, Mode, NodeOf, OutcomeOf, RoleOf, Running, Stopped, flight_of, stopped, stored_with}
use Rattle.node_model.specs.Turning.{Turned, Ran, Fell, Slept, Stopped_now, Opened, Opened_more}
use Rattle.node_model.proofs.Turning.{ForSome, for_some_at}

-- R holds of what is stored, Q of what is in flight
pub record Stores {D P K M : Type 0} (R : D → Type 0) (Q : P → Type 0) (node : NodeOf D P K M) : Type 0 where
  pub list : R node.durable
  pub flight : ForSome Q (flight_of node.mode)

module _ {D P K M : Type 0} (role : RoleOf D P K M) (R : D → Type 0) (Q : P → Type 0) (grow : (durable : D) (put : P) → R durable → Q put → R (role.stored durable put)) where
  stored_grow : (durable : D) (put : Option P) → R durable → ForSome Q put → R (stored_with role durable put)
  stored_grow durable None r q = r
  stored_grow durable (Some put) r q = grow durable put r q

  stopped_flight : (mode : Mode P K M) → ForSome Q (flight_of mode) → ForSome Q (flight_of (stopped role mode))
  stopped_flight (Stopped flight known) q = q
  stopped_flight (Running memory) q = tt

  abbrev pub RowsPut : NodeOf D P K M → Input → Type 0
  RowsPut node input = (memory : M) (change : ChangeOf P M) → role.row node.durable memory input ≡ Some change → ForSome Q change.put

  pub still_stores : (node : NodeOf D P K M) (input : Input) → Stores R Q node → RowsPut node input
      → (mark : Mark) (made : OutcomeOf D P K M) → Turned role node input mark made → Stores R Q made.node
  still_stores node input s rows mark made (Ran memory change m r done e) =
      subst (λ (o : OutcomeOf D P K M). Stores R Q o.node) (sym e)
      (record { list = stored_grow node.durable change.put s.list (rows memory change r); flight = tt })
  still_stores node input s rows mark made (Fell memory change put m r p halts e) =
      subst (λ (o : OutcomeOf D P K M). Stores R Q o.node) (sym e) (record { list = s.list; flight = for_some_at Q change.put put (rows memory change r) p })
  still_stores node input s rows mark made (Slept flight known m done e) = subst (λ (o : OutcomeOf D P K M). Stores R Q o.node) (sym e) s
  still_stores node input s rows mark made (Stopped_now e) =
      subst (λ (o : OutcomeOf D P K M). Stores R Q o.node) (sym e) (record { list = s.list; flight = stopped_flight node.mode s.flight })
  still_stores node input s rows mark made (Opened without e) =
      subst (λ (o : OutcomeOf D P K M). Stores R Q o.node) (sym e) (record { list = s.list; flight = tt })
  still_stores node input s rows mark made (Opened_more put f more e) =
      subst (λ (o : OutcomeOf D P K M). Stores R Q o.node) (sym e)
      (record { list = grow node.durable put s.list (for_some_at Q (flight_of node.mode) put s.flight f); flight = tt })
