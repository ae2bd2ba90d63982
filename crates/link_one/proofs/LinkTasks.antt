-- The tasks of a link's modules, and the units that are made of them.
use mathlib.Core.Logic.{∥∥₁_map₂}
use Rattle.std.proofs.Common.{◌≡◌, ◌∙◌, ◌<◌, ℕ, zero, suc, Bool, List, [], ◌∷◌, All, Some, get_or, length, refl, ap, subst, arith}
use Rattle.std.specs.List.{AllZip}
use Rattle.std.specs.Prelude.{slice_get}
use Rattle.std.proofs.lemmas.Option.{slice_get-get_or}
use Rattle.std.proofs.lemmas.Slice.Zip.{AllZip-long}
use Rattle.lto_task.specs.Tasks.{TaskView, task_view}
use Rattle.lto_task.specs.declared.piece.Piece.{Piece}
use Rattle.lto_task.specs.declared.task.Task.{Task}
use Rattle.ir_tree.specs.declared.module.GlobalValue.{GlobalValue}
use Rattle.ir_tree.specs.declared.module.Module.{Module}
use Rattle.ir_tree.specs.declared.operand.Symbol.{Symbol}
use Rattle.merge_meaning.specs.Lives.{parts_from}
use Rattle.back_pool.specs.Making.{IsAnswer}
use Rattle.importer.specs.ModuleTasks.{AreTasks, IsTaskOfNumber}
use Rattle.link_one.specs.ModuleUnits.{AreUnits}
use Rattle.link_one.specs.TaskUnits.{IsTaskUnit}

-- where answers can be trusted, each is merely made of its task, and so all are
pub all_made : (trusted : Type 0) (makes : TaskView → List Piece → Type 0) → trusted → (tasks : List Task) (units : List (List Piece))
    → AllZip (λ t ps. IsAnswer trusted makes (task_view t) ps) tasks units → ∥ AllZip (λ t ps. makes (task_view t) ps) tasks units ∥₁
all_made trusted makes sure [] [] z = ∣ tt ∣₁
all_made trusted makes sure [] (ps ∷ units) z = absurd z
all_made trusted makes sure (t ∷ tasks) [] z = absurd z
all_made trusted makes sure (t ∷ tasks) (ps ∷ units) z = ∥∥₁_map₂ (z.0.made sure) (all_made trusted makes sure tasks units z.1) (λ one more. (one, more))

-- what the second list has at a place belongs to what the first has there
zip_at : {A B : Type 0} (R : A → B → Type 0) (xs : List A) (ys : List B) → AllZip R xs ys → (k : ℕ) (y : B) → slice_get ys k ≡ Some y → (x : A) × (slice_get xs k ≡ Some x) × R x y
zip_at R [] [] z k y here = absurd (cc here)
zip_at R [] (b ∷ ys) z k y here = absurd z
zip_at R (a ∷ xs) [] z k y here = absurd z
zip_at R (a ∷ xs) (b ∷ ys) z zero y here = (a, refl, subst (R a) (cc here) z.0)
zip_at R (a ∷ xs) (b ∷ ys) z (suc k) y here = zip_at R xs ys z.1 k y here

-- units of the tasks of modules are units of the modules
pub units_made : (exports : List (List ℕ)) (limit : ℕ) (symbols : List Symbol) (suffixes imports promoted : List (List ℕ)) (parts : List (List GlobalValue)) (tasks : List Task) (units : List (List Piece))
    → AreTasks exports limit symbols suffixes imports promoted parts tasks → AllZip (λ t ps. IsTaskUnit (task_view t) ps) tasks units → AreUnits exports limit symbols suffixes imports promoted parts units
units_made exports limit symbols suffixes imports promoted parts tasks units are z = record {
  count = AllZip-long (λ t ps. IsTaskUnit (task_view t) ps) tasks units z ∙ are.count;
  each = λ k unit here.
      let at = zip_at (λ (t : Task) (ps : List Piece). IsTaskUnit (task_view t) ps) tasks units z k unit here in
      record { task = task_view at.0; is_task = are.each k at.0 at.1; made = at.2 };
}

-- ---- the tasks of a link

module _ (exports : List (List ℕ)) (limit : ℕ) (suffixes : List (List ℕ)) (tasks : List Task) where
  pub same_tasks : {symbols ss : List Symbol} {imports is promoted ps : List (List ℕ)} {parts gs : List (List GlobalValue)} → symbols ≡ ss → imports ≡ is → promoted ≡ ps → parts ≡ gs
      → AreTasks exports limit symbols suffixes imports promoted parts tasks → AreTasks exports limit ss suffixes is ps gs tasks
  same_tasks {symbols} {ss} {imports} {is} {promoted} {ps} {parts} {gs} a b c d are =
      subst (λ (x : List Symbol). AreTasks exports limit x suffixes is ps gs tasks) a
      (subst (λ (x : List (List ℕ)). AreTasks exports limit symbols suffixes x ps gs tasks) b
      (subst (λ (x : List (List ℕ)). AreTasks exports limit symbols suffixes imports x gs tasks) c
      (subst (λ (x : List (List GlobalValue)). AreTasks exports limit symbols suffixes imports promoted x tasks) d are)))

pub parts_long : (all : List Module) (symbols : List Symbol) (live : List Bool) (suffixes : List (List ℕ)) (k : ℕ) (ms : List Module) → length (parts_from all symbols live suffixes k ms) ≡ length ms
parts_long all symbols live suffixes k [] = refl
parts_long all symbols live suffixes k (m ∷ ms) = ap suc (parts_long all symbols live suffixes (suc k) ms)

-- what holds of the task of each part holds of all tasks
pub all_tasks : (exports : List (List ℕ)) (limit : ℕ) (symbols : List Symbol) (suffixes imports promoted : List (List ℕ)) (parts : List (List GlobalValue)) (tasks : List Task)
    → AreTasks exports limit symbols suffixes imports promoted parts tasks → (P : TaskView → Type 0)
    → ((k : ℕ) (t : TaskView) → k < length parts → IsTaskOfNumber exports limit symbols suffixes imports promoted parts k t → P t) → All (λ t. P (task_view t)) tasks
all_tasks exports limit symbols suffixes imports promoted parts tasks are P each k d below =
    each k (task_view (get_or tasks k d)) (omega (arith, below, are.count)) (are.each k (get_or tasks k d) (slice_get-get_or tasks k d below))
