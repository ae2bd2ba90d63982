-- No files are linked to two texts.
use Rattle.std.proofs.Common.{◌≡◌, ◌∙◌, ℕ, zero, suc, List, [], ◌∷◌, map, All, refl, ap, subst, sym}
use Rattle.std.specs.List.{AllZip}
use Rattle.ir_tree.specs.Wholes.{IsVerified}
use Rattle.ir_tree.specs.declared.module.Module.{Module}
use Rattle.ir_print.specs.Modules.{module_text}
use Rattle.combined_index.specs.Suffixes.{suffix_of}
use Rattle.merge_meaning.specs.Laws.{PartsAreSound}
use Rattle.back_end.specs.Laws.{MadeIsOne}
use Rattle.emit.specs.Laws.{EmissionIsOne}
use Rattle.thin_link.specs.Laws.{DecisionsAreOne}
use Rattle.importer.proofs.Members.{Stands, all_of}
use Rattle.link_one.specs.Accepted.{Accepts}
use Rattle.link_one.specs.Laws.{AcceptedIsOne, LinkedIsOne}
use Rattle.link_one.specs.Linked.{IsLinked}
use Rattle.link_one.proofs.Once.{module_once}

pub one_accepted : AcceptedIsOne → (files : List (List ℕ)) (ms ns : List Module) → AllZip Accepts files ms → AllZip Accepts files ns → ms ≡ ns
one_accepted one [] [] [] a b = refl
one_accepted one [] [] (n ∷ ns) a b = absurd b
one_accepted one [] (m ∷ ms) ns a b = absurd a
one_accepted one (f ∷ files) [] ns a b = absurd a
one_accepted one (f ∷ files) (m ∷ ms) [] a b = absurd b
one_accepted one (f ∷ files) (m ∷ ms) (n ∷ ns) a b =
    let first : m ≡ n = one f m n a.0 b.0 in
    let rest : ms ≡ ns = one_accepted one files ms ns a.1 b.1 in
    λ i. first i ∷ rest i

pub all_verified : (files : List (List ℕ)) (ms : List Module) → AllZip Accepts files ms → All IsVerified ms
all_verified files ms z = all_of IsVerified ms (λ m s. by files ms z m s)
  where
    by : (files : List (List ℕ)) (ms : List Module) → AllZip Accepts files ms → (m : Module) → Stands ms m → IsVerified m
    by files [] z m (i, here) = absurd (cc here)
    by [] (n ∷ ms) z m s = absurd z
    by (f ∷ files) (n ∷ ms) z m (zero, here) = let same : n ≡ m = cc here in subst IsVerified same z.0.verified
    by (f ∷ files) (n ∷ ms) z m (suc i, here) = by files ms z.1 m (i, here)

pub linked_once : PartsAreSound → MadeIsOne → DecisionsAreOne → EmissionIsOne → AcceptedIsOne → LinkedIsOne
linked_once sound one decisions emission accepted exports import_limit inline_limit files text other a b =
    let same : b.ms ≡ a.ms = one_accepted accepted files b.ms a.ms b.accepted a.accepted in
    a.is
    ∙ ap module_text
    (module_once sound one decisions emission exports import_limit inline_limit (map suffix_of files) a.ms (all_verified files a.ms a.accepted) a.l b.l a.linked
    (subst (λ (ms : List Module). IsLinked exports import_limit inline_limit (map suffix_of files) ms b.l) same b.linked))
    ∙ sym b.is
