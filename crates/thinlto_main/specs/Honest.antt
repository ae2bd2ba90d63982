-- Which text a link makes of which task, and when a cache is trusted to say it.
use Rattle.std.specs.Prelude.{◌≡◌, ◌⊎◌, ℕ, List, None}
use Rattle.ir_tree.specs.Wholes.{IsVerified}
use Rattle.lto_task.specs.Pieces.{NamesRise}
use Rattle.lto_task.specs.Tasks.{TaskView, module_of, task_text}
use Rattle.lto_words.specs.declared.request.LinkOptions.{LinkOptions}
use Rattle.link_one.specs.TaskUnits.{IsUnitText}
use Rattle.ir_round_trip.specs.Tasks.{IsSpelled}

-- Both modules are verified and such as reading gives them, and each list of names rises: so the text tells the whole of the task.
pub record IsTask (t : TaskView) : Type 0 where
  pub spelled : IsSpelled t
  pub own : IsVerified (module_of t.own)
  pub imported : IsVerified (module_of t.imported)
  pub exports : NamesRise t.exports
  pub promoted : NamesRise t.promoted

-- the key is the text of a task, and the text that of the unit that is made of it
abbrev pub HonestEntry : List ℕ → List ℕ → Type 0
HonestEntry key text = ∥ ((t : TaskView) × IsTask t × (key ≡ task_text t) × IsUnitText t text) ∥₁

-- what the cache of these links finds was made so: it lives in memory alone, or its disk was honest at first
abbrev pub IsTrustedBy : LinkOptions → (honest : Type 0) → Type 0
IsTrustedBy options honest = (options.cache ≡ None) ⊎ honest
