use Rattle.std.proofs.Common.{ap, ◌∙◌}
use Rattle.json.proofs.Trees.{view-Object}
use Rattle.serde_json.specs.Data.{object}
use Rattle.link_manifest_json.proofs.Pushed.{joined_entries}
use Rattle.link_manifest_json.specs.Tree.{data_of}
use Rattle.link_manifest_json.proofs.root.rest_of.Goals as goal

pub returns : goal.returns
returns c =
    let before = c.in_ok-members.members.items in
    let after = c.in_ok-behind.behind.items in
    (before, after, c.in_ok-members.ensures, c.in_ok-behind.ensures, ap data_of (view-Object c.append.new.self) ∙ ap object (joined_entries c.append.new.self.items before after c.in_ok-append.ensures.items))
