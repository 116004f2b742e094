-- Names, and names with versions.
use Rattle.std.specs.Prelude.{List, ℕ, None, Some}
use Rattle.link_db_buckets.specs.Keys.{Key}

-- a name without a version
abbrev pub plain_key : List ℕ → Key
plain_key name = record { name = name; version = None }

-- a name with a version
abbrev pub versioned_key : List ℕ → List ℕ → Key
versioned_key name version = record { name = name; version = Some version }
