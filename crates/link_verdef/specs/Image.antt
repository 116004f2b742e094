-- What the version definitions of a file look like in it.
use Rattle.std.specs.Prelude.{◌≡◌, ℕ, ◌<◌, ◌^◌, List, length, position, Option, None, IsTrue}
use Rattle.link_verdef.specs.declared.item.VersionItem.{VersionItem}
use Rattle.link_verdef.specs.Item.{is_lawful}
use Rattle.link_verdef.specs.Records.{verdef_records}
use Rattle.link_verdef.specs.Strings.{has_zero, verdef_strings}

-- the number of the first item whose name holds a zero byte
abbrev pub first_with_zero : List VersionItem → Option ℕ
first_with_zero items = position has_zero items

-- These bytes are the records and the strings of these items, which a file can define and a string table can hold.
pub record IsImageOf (items : List VersionItem) (records strings : List ℕ) : Type 0 where
  pub lawful : IsTrue (is_lawful items)
  pub zeroless : first_with_zero items ≡ None
  pub short : length strings < 2 ^ 32
  pub records_are : records ≡ verdef_records items
  pub strings_are : strings ≡ verdef_strings items
