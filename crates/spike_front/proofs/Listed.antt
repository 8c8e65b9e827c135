-- From a plan that was made to what is said of a listing.
use Rattle.std.proofs.Common.{◌≡◌, ◌⊎◌, ◌++◌, inl, inr, ℕ, List, Option, Some, Result, Ok, Err, sym, ap, subst}
use Rattle.folder_tree.specs.Tree.{Tree, IsWellFormed}
use Rattle.spike_front.specs.Answers.{IsStop, stage_of}
use Rattle.spike_front.specs.Listings.{Listed, Listing, Lists, kernel_listing}
use Rattle.spike_front.specs.Plans.{AsksListing, IsPlan, IsPlanFor, MayPut, plan_of, put}
use Rattle.spike_front.specs.Words.{command_of}
use Rattle.spike_front.specs.declared.answer.Answer.{Answer}
use Rattle.spike_front.specs.declared.answer.Answer.TheVariants.{ConsoleFault, Done}
use Rattle.spike_front.specs.declared.plan.Plan.{Plan}
use Rattle.spike_front.specs.declared.plan.Plan.TheVariants.{Put}
use Rattle.spike_front.specs.declared.words.Command.{Command}
use Rattle.spike_front.specs.declared.words.Command.TheVariants.{Plain, Kernel, Asm}
use Rattle.spike_front.specs.declared.words.WordFault.{WordFault}
use Rattle.spike_front.proofs.PlanFacts.{same_listing}
use Rattle.spike_front.proofs.Stages.{other_stage}

-- what was made is planned for the listing that the words ask for
pub plan_asked : (words : List (List ℕ)) (listing : Listing) (told : Option Tree) (plan : Plan)
    → (command_of words ≡ Ok Kernel → IsPlan plan (put kernel_listing))
    → ((t : Tree) → IsWellFormed t → told ≡ Some t → IsPlan plan (plan_of words t))
    → AsksListing words listing told → IsPlan plan (put listing)
plan_asked words listing told plan kernel tree (inl asked) = subst (λ (l : Listing). IsPlan plan (put l)) (sym asked.1) (kernel asked.0)
plan_asked words listing told plan kernel tree (inr (t, plans)) = subst (IsPlan plan) plans.planned (tree t plans.formed plans.tree_told)

-- a text that was made lists the listing
pub text_lists : (listing : Listing) (text : List ℕ) → IsPlan (Put text) (put listing) → Lists listing text
text_lists listing text (l, planned, lists) = subst (λ (m : Listing). Lists m text) (sym (same_listing listing l planned)) lists

-- a text that was made is one that the command may put
pub put_may : (asked : Result Command WordFault) (words : List (List ℕ)) (text : List ℕ) → IsPlanFor asked words (Put text) → MayPut asked text
put_may (Ok (Plain limit folder file)) words text kind = kind
put_may (Ok Kernel) words text kind = text_lists kernel_listing text kind
put_may (Ok (Asm file)) words text kind = kind
put_may (Err fault) words text kind = cc

-- a text was put whole, or the console is as it was
pub listed_put : (listing : Listing) (text : List ℕ) (answer : Answer) {before after : Option (List ℕ)} → Lists listing text
    → (answer ≡ Done) ⊎ (answer ≡ ConsoleFault)
    → (answer ≡ Done → (held : List ℕ) → before ≡ Some held → after ≡ Some (held ++ text))
    → ((answer ≡ Done → ⊥) → (held : List ℕ) → before ≡ Some held → after ≡ Some held)
    → Listed listing answer before after
listed_put listing text answer lists answers done kept = record {
  done = λ is held told. (text, lists, done is held told);
  kept = kept;
  answers = elim answers [ inl is ↦ inl is | inr fault ↦ inr (inr (inl (ap stage_of fault))) ];
}

-- work that stopped left the console
pub listed_stopped : (listing : Listing) (answer : Answer) (held : Option (List ℕ)) → IsStop answer → Listed listing answer held held
listed_stopped listing answer held stop = record {
  done = λ is. absurd (other_stage answer Done stop (λ e. cc) is);
  kept = λ not_done bytes told. told;
  answers = inr (inl stop);
}
