use Rattle.std.proofs.Common.{◌∷◌, ◌++◌, [], Option, sym, subst}
use Rattle.std.specs.Option.{option_map}
use Rattle.paxos_acceptor.specs.declared.payloads.Entry.{Entry}
use Rattle.paxos_model.specs.Payloads.{payload_found}
use Rattle.paxos_acceptor.specs.Listed.{payload_so}
use Rattle.paxos_acceptor.specs.Table.{Tables}
use Rattle.paxos_acceptor.proofs.Noted.{Tables-nothing}
use Rattle.paxos_acceptor.proofs.listing.note.Goals as goal

pub returns-in_default : goal.returns-in_default
returns-in_default c =
    λ list is.
    subst (λ (o : Option Entry). Tables c.args.table.now (list ++ payload_found (option_map payload_so o) ∷ [])) (sym c.in_default.is) (Tables-nothing c.args.table.now list is)
