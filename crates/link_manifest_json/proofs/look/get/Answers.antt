use Rattle.std.proofs.Common.{option_map, sym, ap, ◌∙◌}
use Rattle.json.specs.Value.{value_view}
use Rattle.link_manifest_json.specs.Tree.{data_of}
use Rattle.link_manifest_json.proofs.Looks.{get-data_of, seen-within}
use Rattle.link_manifest_json.proofs.look.get.Goals as goal

pub returns : goal.returns
returns c = seen-within c.get.result ∙ ap (option_map data_of) c.get.ensures ∙ sym (get-data_of c.args.key.now (value_view c.args.value.now))
