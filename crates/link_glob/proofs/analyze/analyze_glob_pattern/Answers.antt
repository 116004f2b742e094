use Rattle.link_glob.proofs.PatternKind.{type_is}
use Rattle.link_glob.proofs.analyze.analyze_glob_pattern.Goals as goal

pub loop-byte-init : goal.loop-byte-init
loop-byte-init c = type_is c.args.pattern.now
