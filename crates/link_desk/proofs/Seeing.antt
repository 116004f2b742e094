-- A read sees the names that were added before it.
use Rattle.std.proofs.Common.{ℕ, zero, suc, ◌≡◌, ◌<◌, ◌∙◌, ◌||◌, Bool, true, false, List, [], ◌∷◌, MatchOption, slice_get, Option, Some, None, arith, refl, sym, subst}
use Rattle.std.specs.List.{list_any}
use Rattle.std.proofs.lemmas.Bool.{false≢true}
use Rattle.std.proofs.lemmas.List.Folds.{list_any-append}
use Rattle.std.proofs.lemmas.Option.{same_Some}
use Rattle.link_input.specs.declared.options.Options.{Options}
use Rattle.link_input.specs.declared.world.Scripts.{Scripts}
use Rattle.link_input.specs.InputFiles.{Batch, batch_of}
use Rattle.link_rules.specs.Names.{first_definition}
use Rattle.link_rules.specs.Places.{Bytes}
use Rattle.link_rules.specs.Rules.{elf_like}
use Rattle.link_rules.specs.Selection.{Selection}
use Rattle.link_rules.specs.World.{world_of}
use Rattle.link_core.specs.Given.{given_in_batches, world_of_batches}
use Rattle.link_core.specs.Sessions.{Held}
use Rattle.link_core.specs.Steps.{Selects}
use Rattle.link_desk.specs.declared.entry.AddReply.TheVariants.{Added, Refused, NoMemory, Ended, Full}
use Rattle.link_desk.specs.declared.entry.AskReply.{AskReply}
use Rattle.link_desk.specs.declared.entry.AskReply.TheVariants.{Unknown}
use Rattle.link_desk.specs.declared.entry.Entry.{Entry}
use Rattle.link_desk.specs.declared.entry.Entry.TheVariants.{Add, Ask}
use Rattle.link_desk.specs.declared.pass.Kept.{Kept}
use Rattle.link_desk.specs.Passes.{AreCallsOf, Carried}
use Rattle.link_desk.specs.Replay.{IsFound, IsLegal, IsReply, Standing, after}
use Rattle.link_desk.specs.Seeing.{AddsName, IsEnding, SeesAdded, SeesOwn, defines}
use Rattle.link_desk.proofs.Naming.{defined_mapped}

-- the session holds a batch that defines the name
abbrev pub Holds : Standing → Bytes → Type 0
Holds None name = ⊥
Holds (Some h) name = list_any (defines name) h.batches ≡ true

or-left : (a b : Bool) → a ≡ true → (a || b) ≡ true
or-left true b is = refl
or-left false b is = absurd (false≢true is)

or-one : (a b : Bool) → b ≡ true → (a || (b || false)) ≡ true
or-one true b is = refl
or-one false true is = refl
or-one false false is = is

holds_after : (s : Standing) (e : Entry) (name : Bytes) → Holds s name → (IsEnding e → ⊥) → Holds (after s e) name
holds_after None e name holds on = absurd holds
holds_after (Some h) (Add b (Added number loaded)) name holds on =
    list_any-append (defines name) h.batches (batch_of b ∷ []) ∙ or-left (list_any (defines name) h.batches) (list_any (defines name) (batch_of b ∷ [])) holds
holds_after (Some h) (Add b (Refused kind)) name holds on = absurd (on tt)
holds_after (Some h) (Add b NoMemory) name holds on = absurd (on tt)
holds_after (Some h) (Add b Ended) name holds on = holds
holds_after (Some h) (Add b Full) name holds on = holds
holds_after (Some h) (Ask other reply) name holds on = holds

holds_added : (s : Standing) (e : Entry) (name : Bytes) → IsReply s e → AddsName name e → Holds (after s e) name
holds_added None (Add b (Added number loaded)) name may adds = absurd (cc)
holds_added (Some h) (Add b (Added number loaded)) name may adds =
    list_any-append (defines name) h.batches (batch_of b ∷ []) ∙ or-one (list_any (defines name) h.batches) (defines name (batch_of b)) adds
holds_added s (Add b (Refused kind)) name may adds = absurd adds
holds_added s (Add b NoMemory) name may adds = absurd adds
holds_added s (Add b Ended) name may adds = absurd adds
holds_added s (Add b Full) name may adds = absurd adds
holds_added s (Ask other reply) name may adds = absurd adds

knows_in : (options : Options) (texts : Scripts) (bs : List Batch) (name : Bytes) (reply : AskReply)
    → MatchOption (world_of_batches elf_like (λ name. name) options texts bs) (reply ≡ Unknown) (λ w. (l : Selection) × Selects w l × IsFound l name reply)
    → list_any (defines name) bs ≡ true → reply ≡ Unknown → ⊥
knows_in options texts [] name reply may holds is = false≢true holds
knows_in options texts (b ∷ bs) name reply may holds is =
    let l = may.0 in
    let P : AskReply → Type 0 = λ r. IsFound l name r in
    defined_mapped (world_of elf_like (λ name. name) (given_in_batches b bs options texts)) l name may.1 holds (subst P is may.2)

knows : (s : Standing) (name : Bytes) (reply : AskReply) → IsReply s (Ask name reply) → Holds s name → reply ≡ Unknown → ⊥
knows None name reply may holds is = holds
knows (Some h) name reply may holds is = knows_in h.options h.texts h.batches name reply may holds is

seen_from : (s : Standing) (es : List Entry) (j : ℕ) (name : Bytes) (reply : AskReply) → IsLegal s es → Holds s name
    → ((k : ℕ) (x : Entry) → k < j → slice_get es k ≡ Some x → IsEnding x → ⊥)
    → slice_get es j ≡ Some (Ask name reply) → reply ≡ Unknown → ⊥
seen_from s [] j name reply legal holds on at is = absurd (cc)
seen_from s (e ∷ es) zero name reply legal holds on at is =
    let P : Entry → Type 0 = λ x. IsReply s x in
    knows s name reply (subst P (same_Some _ _ at) legal.0) holds is
seen_from s (e ∷ es) (suc j) name reply legal holds on at is =
    seen_from (after s e) es j name reply legal.1 (holds_after s e name holds (on 0 e (omega arith) refl)) (λ k x less. on (suc k) x (omega (arith, less))) at is

pub sees : (s : Standing) (es : List Entry) → IsLegal s es → SeesAdded es
sees s [] legal i j e name reply less at adds on to is = absurd (cc)
sees s (x ∷ es) legal zero zero e name reply less at adds on to is = absurd (omega (arith, less))
sees s (x ∷ es) legal zero (suc j) e name reply less at adds on to is =
    let P : Entry → Type 0 = λ y. AddsName name y in
    seen_from (after s x) es j name reply legal.1 (holds_added s x name legal.0 (subst P (sym (same_Some _ _ at)) adds))
    (λ k y l. on (suc k) y (omega arith) (omega (arith, l))) to is
sees s (x ∷ es) legal (suc i) zero e name reply less at adds on to is = absurd (omega (arith, less))
sees s (x ∷ es) legal (suc i) (suc j) e name reply less at adds on to is =
    sees (after s x) es legal.1 i j e name reply (omega (arith, less)) at adds (λ k y l m. on (suc k) y (omega (arith, l)) (omega (arith, m))) to is

-- so does a pass
pub sees_own : (history : List Entry) (passes : List Carried) → SeesAdded history → AreCallsOf history passes → SeesOwn history passes
sees_own history passes sees calls p j k x y name reply less at to adds on is =
    let P : Entry → Type 0 = λ e. slice_get history y.place ≡ Some e in
    sees x.place y.place x.entry name reply (calls.ordered p j k x y less at to) (calls.made p j x at) adds on (subst P is (calls.made p k y to))
