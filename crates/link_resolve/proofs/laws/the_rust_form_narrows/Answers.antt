use Rattle.link_resolve.proofs.Narrowing.{rust-narrows}
use Rattle.link_resolve.proofs.laws.the_rust_form_narrows.Goals as goal

pub returns : goal.returns
returns g c = λ db known l is table. rust-narrows db known l (l.stage.rules.rust_names) is table
