-- What is said of a table that is refused.
use Rattle.std.specs.Prelude.{ℕ, List, ◌++◌, codes, decimal}
use Rattle.link_input.specs.declared.table_error.TableError.{TableError}
use Rattle.link_input.specs.declared.table_error.TableError.TheVariants.{NullEntry, UndefinedLocal, VersionlessNotDefault, SectionRange, SignatureRange, MemberRange, HeaderTwice, HeaderIsMember, ReferenceRange, RetainRange, Memory}

-- the text of each fault, which tells symbols, groups and references by their places from 0
abbrev pub table_error_text : TableError → List ℕ
table_error_text NullEntry = codes "entry 0 is not null"
table_error_text (UndefinedLocal i) = codes "symbol " ++ decimal i ++ codes " is undefined and local"
table_error_text (VersionlessNotDefault i) = codes "symbol " ++ decimal i ++ codes " has no version and is not default"
table_error_text (SectionRange i) = codes "symbol " ++ decimal i ++ codes " has no such section"
table_error_text (SignatureRange g) = codes "group " ++ decimal g ++ codes " has no such signature"
table_error_text (MemberRange g s) = codes "group " ++ (decimal g ++ (codes " has no section " ++ decimal s))
table_error_text (HeaderTwice g) = codes "group " ++ decimal g ++ codes " repeats a header"
table_error_text (HeaderIsMember g) = codes "group " ++ decimal g ++ codes " has a header that is a member"
table_error_text (ReferenceRange i) = codes "section reference " ++ decimal i ++ codes " is out of range"
table_error_text (RetainRange i) = codes "retained section " ++ decimal i ++ codes " is out of range"
table_error_text Memory = codes "out of memory"
