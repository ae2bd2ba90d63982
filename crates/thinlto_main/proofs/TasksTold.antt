-- The text of a task of files of bytes tells the whole of it, so what fits it as a key is what is made of the task.
use mathlib.Core.Logic.{∥∥₁_map}
use Rattle.std.proofs.Common.{◌≡◌, ◌↔◌, inl, inr, ℕ, List, [], map, codes, refl, sym, subst, arith}
use Rattle.std.proofs.lemmas.List.Elements.{All-contains, All-nil, All-weaker}
use Rattle.std.specs.List.{All, AllZip}
use Rattle.std.specs.Prelude.{slice_index_or}
use Rattle.ir_lex.specs.TokenKinds.{name_kind}
use Rattle.ir_tree.specs.Names.{AllBytes}
use Rattle.ir_tree.specs.Wholes.{IsVerified}
use Rattle.ir_tree.specs.declared.module.GlobalValue.{GlobalValue}
use Rattle.back_pool.specs.Making.{FitsAsMade, IsMadeText}
use Rattle.lto_task.specs.Tasks.{IsWrittenTask, TaskView, module_of, task_text}
use Rattle.merge_meaning.specs.Lives.{parts}
use Rattle.merge_meaning.specs.Hosts.{getchar, putchar}
use Rattle.combined_index.specs.Suffixes.{suffix_of}
use Rattle.importer.specs.Brought.{joined}
use Rattle.importer.specs.TaskLaws.{IsDeclared, IsOrDeclared, TasksAreOfParts}
use Rattle.importer.proofs.Members.{all_joined, zip_map}
use Rattle.link_one.specs.Accepted.{Accepts}
use Rattle.link_one.specs.TaskLaws.{TasksAreVerified}
use Rattle.link_one.specs.TaskUnits.{IsTaskUnit, IsUnitText}
use Rattle.link_one.proofs.Texts.{all_verified}
use Rattle.ir_round_trip.specs.Classes.{IsOrdinary}
use Rattle.ir_round_trip.specs.Renamed.{DeclarationsAreSpelled, IsReadOf, PartsAreSpelled, SpelledIsTold, ValueSpelled}
use Rattle.ir_round_trip.specs.Tasks.{IsSpelled, TaskTextIsOne}
use Rattle.thinlto_main.specs.Honest.{HonestEntry, IsTask}
use Rattle.thinlto_main.specs.Tasks.{IsTaskOfFiles, TasksAreSpelled, TasksAreTold}
use Rattle.thinlto_main.proofs.Rereading.{host_plain}

-- ---- functions of the outside

getchar_bytes : AllBytes (codes "getchar")
getchar_bytes = (omega arith, (omega arith, (omega arith, (omega arith, (omega arith, (omega arith, (omega arith, tt)))))))

putchar_bytes : AllBytes (codes "putchar")
putchar_bytes = (omega arith, (omega arith, (omega arith, (omega arith, (omega arith, (omega arith, (omega arith, tt)))))))

getchar_ordinary : IsOrdinary (codes "getchar")
unfolding name_kind
getchar_ordinary = refl

putchar_ordinary : IsOrdinary (codes "putchar")
unfolding name_kind
putchar_ordinary = refl

getchar_spelled : ValueSpelled getchar
getchar_spelled =
    let plain = host_plain getchar (inl refl) in
    record {
      name = (record { bytes = getchar_bytes; no_zero = refl }, getchar_ordinary);
      within = record { few_parameters = omega arith; few_blocks = omega arith; few_instructions = omega arith; items = All-nil _ };
      locals = plain.locals;
      strings = plain.strings;
    }

putchar_spelled : ValueSpelled putchar
putchar_spelled =
    let plain = host_plain putchar (inr refl) in
    record {
      name = (record { bytes = putchar_bytes; no_zero = refl }, putchar_ordinary);
      within = record { few_parameters = omega arith; few_blocks = omega arith; few_instructions = omega arith; items = All-nil _ };
      locals = plain.locals;
      strings = plain.strings;
    }

-- ---- values of a task

declared_spelled : DeclarationsAreSpelled → (all : List GlobalValue) → All ValueSpelled all → (d : GlobalValue) → IsDeclared all d → ValueSpelled d
declared_spelled declares all spelled d (inl (g, there, is)) = subst ValueSpelled (sym is) (declares g (All-contains ValueSpelled all g spelled there))
declared_spelled declares all spelled d (inr (inl is)) = subst ValueSpelled (sym is) getchar_spelled
declared_spelled declares all spelled d (inr (inr is)) = subst ValueSpelled (sym is) putchar_spelled

value_spelled : DeclarationsAreSpelled → (all : List GlobalValue) → All ValueSpelled all → (g : GlobalValue) → IsOrDeclared all g → ValueSpelled g
value_spelled declares all spelled g (inl there) = All-contains ValueSpelled all g spelled there
value_spelled declares all spelled g (inr declared) = declared_spelled declares all spelled g declared

-- ---- tasks

task_verified : TasksAreVerified → (files : List (List ℕ)) (t : TaskView) → IsTaskOfFiles files t → IsVerified (module_of t.own) × IsVerified (module_of t.imported)
task_verified law files t f =
    law f.exports f.import_limit f.inline_limit (map suffix_of files) f.ms f.in_link.index f.in_link.live f.in_link.imports (slice_index_or f.in_link.promoted f.in_link.number []) f.in_link.number t
    (all_verified files f.ms f.accepted) f.in_link.thin f.in_link.named f.in_link.task

-- what is true of tasks and of what is read again
pub record TellingLaws : Type 0 where
  pub of_parts : TasksAreOfParts
  pub verified : TasksAreVerified
  pub parts : PartsAreSpelled
  pub declares : DeclarationsAreSpelled
  pub told : SpelledIsTold

module _ (laws : TellingLaws) (files : List (List ℕ)) (t : TaskView) (of_bytes : All AllBytes files) (f : IsTaskOfFiles files t) where
  abbrev of_files : List (List GlobalValue)
  of_files = parts f.ms f.in_link.index.symbols f.in_link.live (map suffix_of files)

  read : AllZip IsReadOf files f.ms
  read = zip_map Accepts IsReadOf files f.ms (λ bytes m s a. (a.lines, a.reads)) f.accepted

  spelled : All ValueSpelled (joined of_files)
  spelled = all_joined ValueSpelled of_files (laws.parts files f.ms f.in_link.index.symbols f.in_link.live of_bytes read)

  both_verified : IsVerified (module_of t.own) × IsVerified (module_of t.imported)
  both_verified = task_verified laws.verified files t f

  both_of_parts : All (IsOrDeclared (joined of_files)) t.own × All (IsOrDeclared (joined of_files)) t.imported
  both_of_parts =
      laws.of_parts f.exports f.inline_limit f.in_link.index (map suffix_of files) (slice_index_or f.in_link.imports f.in_link.number []) (slice_index_or f.in_link.promoted f.in_link.number []) of_files f.in_link.number t
      f.in_link.task

  all_spelled : (gs : List GlobalValue) → All (IsOrDeclared (joined of_files)) gs → All ValueSpelled gs
  all_spelled gs each = All-weaker (IsOrDeclared (joined of_files)) ValueSpelled (value_spelled laws.declares (joined of_files) spelled) gs each

  pub task_spelled : IsWrittenTask t → IsSpelled t
  task_spelled written = record {
    written = written;
    own = laws.told t.own both_verified.0 (all_spelled t.own both_of_parts.0);
    imported = laws.told t.imported both_verified.1 (all_spelled t.imported both_of_parts.1);
  }

pub tasks_spelled : TellingLaws → TasksAreSpelled
tasks_spelled laws files t of_bytes f written = task_spelled laws files t of_bytes f written

pub tasks_told : TasksAreSpelled → TaskTextIsOne → TasksAreTold
tasks_told spelled one files others t u of_bytes too f g written also same = one t u (spelled files t of_bytes f written) (spelled others u too g also) same

-- ---- what fits the text of a task

-- what is true of the tasks of links
pub record FittingLaws : Type 0 where
  pub spelled : TasksAreSpelled
  pub verified : TasksAreVerified
  pub one : TaskTextIsOne

module _ (laws : FittingLaws) (files : List (List ℕ)) (t : TaskView) (of_bytes : All AllBytes files) (f : IsTaskOfFiles files t) (written : IsWrittenTask t) where
  is_task : IsTask t
  is_task = record {
    spelled = laws.spelled files t of_bytes f written;
    own = (task_verified laws.verified files t f).0;
    imported = (task_verified laws.verified files t f).1;
    exports = f.in_link.task.exports_rise;
    promoted = f.in_link.task.promoted_rise;
  }

  -- a text of its own is one that is made of it
  made_of : (text : List ℕ) (u : TaskView) → IsTask u → task_text t ≡ task_text u → IsUnitText u text → IsMadeText IsTaskUnit t text
  made_of text u task same made =
      let is : u ≡ t = laws.one u t task.spelled (laws.spelled files t of_bytes f written) (sym same) in
      (made.unit, made.rises, subst (λ (v : TaskView). IsTaskUnit v made.unit) is made.is_unit, made.is)

  pub fits_as_made : (fits : List ℕ → List ℕ → Type 0) → ((key text : List ℕ) → fits key text ↔ HonestEntry key text) → FitsAsMade fits IsTaskUnit t
  fits_as_made fits meaning text = (
    λ fit. ∥∥₁_map ((meaning (task_text t) text).0 fit) (λ h. made_of text h.0 h.1 h.2 h.3),
    λ made. (meaning (task_text t) text).1 (∥∥₁_map made (λ m. (t, is_task, refl, record { unit = m.0; is_unit = m.2; rises = m.1; is = m.3 }))),
  )
