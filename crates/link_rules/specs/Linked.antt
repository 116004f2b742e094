-- What a link gives: the answer, part by part.
use Rattle.std.specs.Prelude.{ℕ, List, Option}
use Rattle.link_flags.specs.declared.value_flags.ValueFlags.{ValueFlags}
use Rattle.link_rules.specs.declared.linked.GivenVersion.{GivenVersion}
use Rattle.link_rules.specs.declared.linked.KeptGroup.{KeptGroup}
use Rattle.link_rules.specs.Places.{Bytes}

-- a loaded object, with its place among the objects, from 0
pub record LoadedObject : Type 0 where
  pub object : ℕ
  pub name : Bytes

-- a name, perhaps of a version, that loaded objects refer to and nothing defines, with the id of the reference that stands for all of them
pub record UndefinedName : Type 0 where
  pub symbol : ℕ
  pub name : Bytes
  pub version : Option Bytes

-- the loaded objects and the kept groups, in the order of the objects; the name of each symbol, at its id; the symbol that each points to, two steps of which
-- lead to what it means, and 0 where it means nothing; the flags of each symbol's own value; versions and undefined names, in the order of their ids; the
-- names that the export list requires and nothing defines, in the order of the list
pub record Linked : Type 0 where
  pub loaded : List LoadedObject
  pub kept : List KeptGroup
  pub names : List Bytes
  pub table : List ℕ
  pub flags : List ValueFlags
  pub versions : List GivenVersion
  pub undefined : List UndefinedName
  pub missing : List Bytes
