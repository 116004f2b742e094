use Rattle.std.proofs.Common.{◌∙◌, List, [], ap, refl, subst, sym}
use Rattle.link_input.specs.declared.options.Options.{Options}
use Rattle.link_input.specs.declared.world.Scripts.{Scripts}
use Rattle.link_flags.specs.FlagWords.{numbers_of, words_of}
use Rattle.link_flags.specs.declared.value_flags.RawFlags.{RawFlags}
use Rattle.link_db_texts.specs.Holds.{HoldsTexts, platform_of}
use Rattle.link_rules.specs.World.{world_of}
use Rattle.link_db.specs.Database.{Database}
use Rattle.link_db.specs.Seen.{seen}
use Rattle.link_core.specs.Given.{given_in_batches}
use Rattle.link_core.proofs.Passing.{nothing-steady, ready-first}
use Rattle.link_core.proofs.opening.open_link.Goals as goal

-- the first batch may come
pub returns-clause-new : goal.returns-clause-new
returns-clause-new g c = λ demangle.
    let empty = c.in_ok-db.ensures.empty in
    record {
      groups = ap (λ (d : Database g.row.P.Denot). d.mapping.files.groups) empty;
      known_is = c.new-resolver.ensures.known;
      texts_read = λ first later. c.in_ok-db.ensures.cause (world_of (platform_of g.P.Platform) demangle (given_in_batches first later c.args.options c.args.texts.now))
          (record { same_options = refl; same_texts = refl; list_fault = refl });
      ready = λ w options texts.
          ready-first (platform_of g.P.Platform) w (seen c.in_ok-db.db) (numbers_of (words_of c.new-flags.result)) c.new-resolver.result.known
          (ap (λ (d : Database g.row.P.Denot). d.options) empty ∙ sym options)
          (ap (λ (d : Database g.row.P.Denot). d.mapping) empty)
          (subst (λ (o : Options). HoldsTexts (platform_of g.P.Platform) o w.texts [] (seen c.in_ok-db.db).rules) (sym options)
          (subst (λ (t : Scripts). HoldsTexts (platform_of g.P.Platform) c.args.options t [] (seen c.in_ok-db.db).rules) (sym texts) c.in_ok-db.ensures.holds))
          (ap (λ (ws : List RawFlags). numbers_of ws) c.new-flags.ensures) c.new-resolver.ensures.known;
    }

-- nothing is known of any symbol
pub returns-clause-steady : goal.returns-clause-steady
returns-clause-steady g c =
    let empty = c.in_ok-db.ensures.empty in
    nothing-steady (seen c.in_ok-db.db) (words_of c.new-flags.result) c.new-resolver.result.known (ap (λ (d : Database g.row.P.Denot). d.mapping) empty)
    (ap (λ (d : Database g.row.P.Denot). d.table) empty) c.new-flags.ensures c.new-resolver.ensures.known
