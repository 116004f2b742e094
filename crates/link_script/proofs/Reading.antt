-- Versions that are read one after the other.
use Rattle.std.proofs.Common.{◌≡◌, suc, List, [], ◌∷◌, ◌++◌, length, refl, ap}
use Rattle.link_script_syntax.specs.declared.named.RawVersion.{RawVersion}
use Rattle.link_script.specs.declared.rules.Version.{Version}
use Rattle.link_script.specs.Filter.{IsVersion, AreVersions}

pub are_as_many : (raws : List RawVersion) (versions : List Version) → AreVersions raws versions → length versions ≡ length raws
are_as_many [] [] are = refl
are_as_many [] (v ∷ versions) are = absurd are
are_as_many (r ∷ raws) [] are = absurd are
are_as_many (r ∷ raws) (v ∷ versions) are = ap (λ n. suc n) (are_as_many raws versions are.1)

pub are_more : (raws : List RawVersion) (versions : List Version) (raw : RawVersion) (v : Version) → AreVersions raws versions → IsVersion raw v → AreVersions (raws ++ raw ∷ []) (versions ++ v ∷ [])
are_more [] [] raw v are is = (is, tt)
are_more [] (w ∷ versions) raw v are is = absurd are
are_more (r ∷ raws) [] raw v are is = absurd are
are_more (r ∷ raws) (w ∷ versions) raw v are is = (are.0, are_more raws versions raw v are.1 is)
