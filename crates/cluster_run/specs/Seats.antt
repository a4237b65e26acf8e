-- What a pass of a cluster knows and has, with its account.
use Rattle.cluster.specs.Clusters.{PassSeat}
use Rattle.tied_cells.specs.declared.account.Account.{Account}

abbrev pub PassNow : Type 0 → Type 0
PassNow A = PassSeat A × Account
