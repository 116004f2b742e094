use Rattle.link_rules.proofs.WorkParts.{symbols_held, requests_joined, marks_joined, one_item}
use Rattle.link_rules.proofs.laws_work.items_are_their_object.Goals as goal

pub returns-clause-symbols : goal.returns-clause-symbols
returns-clause-symbols c = symbols_held

pub returns-clause-requests : goal.returns-clause-requests
returns-clause-requests c = requests_joined

pub returns-clause-marks : goal.returns-clause-marks
returns-clause-marks c = marks_joined

pub returns-clause-one : goal.returns-clause-one
returns-clause-one c = one_item
