-- The columns of a database tell of each selection of which they are known.
use Rattle.std.proofs.Common.{◌≡◌, ◌∙◌, ◌++◌, List, [], Bool, ap, map, sym, ℕ}
use Rattle.std.specs.Prelude.{take}
use Rattle.link_input.specs.declared.options.Options.{Options}
use Rattle.link_input.specs.Symbols.{Symbol, is_shared}
use Rattle.link_resolve_rivals.specs.Survivors.{Tells}
use Rattle.link_resolve_rivals.specs.declared.survivors.Survivors.{Survivors}
use Rattle.link_rules.specs.Places.{Bytes}
use Rattle.link_rules.specs.Refusals.{duplicate_lines, plain_duplicates, versioned_duplicates}
use Rattle.link_rules.specs.Rivals.{is_in_loaded_regular, plain_table}
use Rattle.link_rules.specs.Rules.{PlatformRules, Rules}
use Rattle.link_rules.specs.Selection.{Selection}
use Rattle.link_rules.specs.Sorting.{sorted_texts}
use Rattle.link_db_files.specs.GroupFiles.{symbols_in}
use Rattle.link_db.specs.Database.{Database}
use Rattle.link_resolve.specs.Known.{IsSelection, Known}

-- such columns tell of the selection
pub tells-of : {P : Type 0} {survivors : Survivors} (platform : PlatformRules) (demangle : Bytes → Bytes) (db : Database P) (known : Known) (l : Selection)
    → IsSelection platform demangle db known l → survivors.strengths.now ≡ known.strengths
    → survivors.dynamic.now ≡ map (λ x. is_shared x.origin) (symbols_in db.mapping.files.groups)
    → survivors.held.now ≡ map (λ x. is_in_loaded_regular known.marks x.origin) (symbols_in db.mapping.files.groups)
    → survivors.weak_overrides_common ≡ platform.weak_overrides_common → survivors.allow_multiple ≡ db.options.allow_multiple → Tells survivors l
tells-of platform demangle db known l is strengths dynamic held weak multiple = record {
  strengths = strengths ∙ sym is.strengths;
  dynamic = dynamic ∙ ap (λ (xs : List Symbol). map (λ x. is_shared x.origin) xs) (sym is.stage.symbols);
  held = held ∙ ap (λ (xs : List Symbol). map (λ x. is_in_loaded_regular known.marks x.origin) xs) (sym is.stage.symbols)
      ∙ ap (λ (marks : List Bool). map (λ (x : Symbol). is_in_loaded_regular marks x.origin) l.stage.symbols) (sym is.marks);
  weak_overrides_common = weak ∙ sym (ap (λ (r : Rules). r.weak_overrides_common) is.stage.rules.same);
  allow_multiple = multiple ∙ sym (ap (λ (o : Options). o.allow_multiple) is.stage.options);
}

-- what the table holds says nothing of a selection
pub untabled : {P : Type 0} (platform : PlatformRules) (demangle : Bytes → Bytes) (db : Database P) (known : Known) (l : Selection)
    → IsSelection platform demangle db known l → IsSelection platform demangle (record db { table = [] }) known l
untabled platform demangle db known l is = record {
  stage = record {
    objects = is.stage.objects;
    scripts = is.stage.scripts;
    symbols = is.stage.symbols;
    added = is.stage.added;
    options = is.stage.options;
    rules = is.stage.rules;
    lists = is.stage.lists;
    names = is.stage.names;
  };
  marks = is.marks;
  targets = is.targets;
  strengths = is.strengths;
}

-- the lines of both kinds of clashes, sorted, are those of the selection
pub lines-are : (l : Selection) (plain versioned : List Bytes) → plain ≡ plain_duplicates l → versioned ≡ versioned_duplicates l (plain_table l)
    → sorted_texts (plain ++ versioned) ≡ duplicate_lines l
lines-are l plain versioned first second = ap (λ lines. sorted_texts (lines ++ versioned)) first ∙ ap (λ lines. sorted_texts (plain_duplicates l ++ lines)) second

-- only the table and the later definitions change
pub rest-is : {P : Type 0} (old settled last : Database P) → settled ≡ record old { table = settled.table }
    → last ≡ record settled { mapping = record settled.mapping { lists = λ key. take 1 (settled.mapping.lists key) } }
    → last ≡ record old { table = last.table; mapping = record old.mapping { lists = λ key. take 1 (old.mapping.lists key) } }
rest-is {P} old settled last is more =
    more ∙ ap (λ (d : Database P). record d { mapping = record d.mapping { lists = λ key. take 1 (d.mapping.lists key) } }) is
    ∙ ap (λ (table : List ℕ). record old { table = table; mapping = record old.mapping { lists = λ key. take 1 (old.mapping.lists key) } }) (sym (ap (λ (d : Database P). d.table) more))
