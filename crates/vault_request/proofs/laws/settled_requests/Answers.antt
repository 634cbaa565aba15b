use Rattle.vault_request.proofs.theorems.SettledRequests.{settled_requests}
use Rattle.vault_request.proofs.laws.settled_requests.Goals as goal

pub returns : goal.returns
returns c = settled_requests
