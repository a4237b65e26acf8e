use Rattle.std.proofs.Common.{◌≡◌, ◌++◌, ℕ, List, map}
use Rattle.event_letters.specs.Letters.{HasSpace}
use Rattle.history_frame.specs.declared.events.Sent.{Sent}
use Rattle.node_model.specs.Machine.{posted}
use Rattle.storage_node.specs.Preparing.{sizes_of}
use Rattle.storage_node.proofs.sending.send_all.Given as goal

-- the letters so far are sent, and there is room for the others
abbrev pub invariant-loop-sent : goal.invariant-loop-sent
invariant-loop-sent l = record {
  sent : l.letters.sent ≡ l.initial.letters.sent ++ l.yielded;
  letters : l.out.letters ≡ l.initial.out.letters ++ map posted l.yielded;
  space : (others : List Sent) (sizes : List ℕ) → HasSpace l.initial.letters l.initial.out.rooms (sizes_of (l.yielded ++ others) ++ sizes)
      → HasSpace l.letters l.out.rooms (sizes_of others ++ sizes);
}
