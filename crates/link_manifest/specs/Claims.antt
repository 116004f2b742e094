-- The claim of a manifest: its keys, in the order in which they are walked.
use Rattle.std.specs.Prelude.{ℕ, List, [], ◌∷◌, Result, Ok, codes}
use Rattle.serde_json.specs.Data.{Data}
use Rattle.link_check_claims.specs.declared.claim.Claim.{Claim}
use Rattle.link_check_claims.specs.declared.claim.ClaimedGroup.{ClaimedGroup}
use Rattle.link_check_claims.specs.declared.claim.ClaimedObject.{ClaimedObject}
use Rattle.link_manifest.specs.declared.fault.ManifestFault.{ManifestFault}
use Rattle.link_manifest.specs.Reading.{and_read, list_read, object_of_keys, or_null, required}
use Rattle.link_manifest.specs.Values.{number_read}

abbrev pub claimed_object_keys : List (List ℕ)
claimed_object_keys = codes "object" ∷ codes "rank" ∷ codes "by" ∷ []

-- an object that is claimed to be loaded
abbrev pub claimed_object_read : Data → Result ClaimedObject ManifestFault
claimed_object_read value =
    and_read (object_of_keys claimed_object_keys value) (λ _.
    and_read (required (codes "object") number_read value) (λ object.
    and_read (required (codes "rank") number_read value) (λ rank.
    and_read (required (codes "by") (or_null number_read) value) (λ by.
    Ok (record { object = object; rank = rank; by = by })))))

abbrev pub claimed_group_keys : List (List ℕ)
claimed_group_keys = codes "object" ∷ codes "group" ∷ []

-- a group that is claimed to be kept
abbrev pub claimed_group_read : Data → Result ClaimedGroup ManifestFault
claimed_group_read value =
    and_read (object_of_keys claimed_group_keys value) (λ _.
    and_read (required (codes "object") number_read value) (λ object.
    and_read (required (codes "group") number_read value) (λ group.
    Ok (record { object = object; group = group }))))

abbrev pub claim_keys : List (List ℕ)
claim_keys = codes "loaded" ∷ codes "kept" ∷ codes "table" ∷ []

-- what is claimed of a link
abbrev pub claim_read : Data → Result Claim ManifestFault
claim_read value =
    and_read (object_of_keys claim_keys value) (λ _.
    and_read (required (codes "loaded") (list_read claimed_object_read) value) (λ loaded.
    and_read (required (codes "kept") (list_read claimed_group_read) value) (λ kept.
    and_read (required (codes "table") (list_read number_read) value) (λ table.
    Ok (record { loaded = loaded; kept = kept; table = table })))))
