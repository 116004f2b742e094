use Rattle.link_claim.proofs.Stores.{no_store_claims, no_store_marks}
use Rattle.link_claim.proofs.law.no_store_will_do.Goals as goal

pub returns-clause-claims : goal.returns-clause-claims
returns-clause-claims c w f sound root = no_store_claims w sound f root

pub returns-clause-marks : goal.returns-clause-marks
returns-clause-marks c w i it m sound fits has root listed missing n = no_store_marks w sound i it m has root listed fits missing n
