use Rattle.std.proofs.Common.{sym, ◌∙◌, subst}
use Rattle.paxos_acceptor.specs.Listed.{list_of, payload_so}
use Rattle.paxos_acceptor.specs.Table.{Tables}
use Rattle.paxos_acceptor.proofs.Noted.{list_of-after}
use Rattle.paxos_acceptor.proofs.acceptor.Acceptor.put.Goals as goal

pub invariant_of-self : goal.invariant_of-self
invariant_of-self g c =
    let old = g.J.Journal.state c.self.inside.journal in
    let list = list_of-after old (g.J.Journal.state c.put.new.self) c.deref.result.now (payload_so c.args.entry.now) c.requires.entry
    (c.deref.ensures.value ∙ c.spell.ensures.items) c.in-Ok.ensures.ok in
    record {
      tables = subst (Tables c.note.new.self) (sym list) (c.note.ensures (list_of old) c.self.invariant.tables);
      window_room = c.self.invariant.window_room;
      spelling_room = c.spell.ensures.capacity;
    }
