use Rattle.std.specs.Option.{option_map}
use Rattle.link_script.specs.Lookup.{asked}
use Rattle.link_script.proofs.Declared.{version_is, version_of_text}
use Rattle.link_script.proofs.regular.RegularVersionScript.version_for_symbol.Goals as goal

pub returns-clause-means : goal.returns-clause-means
returns-clause-means g c =
    rw (c.version_for_symbol.ensures, c.as_slice.ensures, c.self.view_is)
    (version_is c.args.self.now (asked (g.D.Demangler.demangled c.args.demangler.now) c.args.name.now) (option_map (λ e. e.now) c.args.explicit))

pub returns-clause-of_text : goal.returns-clause-of_text
returns-clause-of_text g c = λ raws are.
    rw (c.version_for_symbol.ensures, c.as_slice.ensures, c.self.view_is)
    (version_of_text raws c.args.self.now (asked (g.D.Demangler.demangled c.args.demangler.now) c.args.name.now) (option_map (λ e. e.now) c.args.explicit) are)
