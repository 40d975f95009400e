-- What holds of some jobs, and of one more after them.
use Rattle.std.proofs.Common.{◌≡◌, ◌<◌, ◌+◌, ◌∙◌, ℕ, List, [], ◌∷◌, ◌++◌, length, get_or, length-append, refl, sym, ap, subst, arith, ⊎_elim}
use denote.Param.Members.{Shared}
use Rattle.std.proofs.lemmas.List.{get_or_append_left, get_or_push}
use Rattle.std.proofs.lemmas.Bool.Decides.{eqb_tells}
use Rattle.std.specs.Fork.{AcceptsJobs, GivesJob}
use Rattle.std.specs.Fork.Halves.{GivesFor}

module _ {F J X : Type 0} (g : Shared F (J × Unit {0}) X) (f : F) (all jobs : List J) (last : J) (is : all ≡ jobs ++ last ∷ []) where
  longer : length all ≡ length jobs + 1
  longer = omega (arith, ap length is, length-append jobs (last ∷ []))

  at_last : (i : ℕ) (other : J) → length jobs ≡ i → get_or all i other ≡ last
  at_last i other same = ap (λ js. get_or js i other) is ∙ get_or_push jobs last other i same

  at_front : (i : ℕ) (other : J) → i < length jobs → get_or all i other ≡ get_or jobs i other
  at_front i other low = ap (λ js. get_or js i other) is ∙ get_or_append_left jobs (last ∷ []) other i low

  pub accepts_front : AcceptsJobs g f all → AcceptsJobs g f jobs
  accepts_front accepts i job low read = accepts i job (omega (arith, low, longer)) (read ∙ sym (at_front i job low))

  pub accepts_last : AcceptsJobs g f all → g.pre f (last, tt)
  accepts_last accepts = accepts (length jobs) last (omega (arith, longer)) (sym (at_last (length jobs) last refl))

  pub gives_for_all : (rest answers : List X) (own : X) → answers ≡ rest ++ own ∷ [] → GivesFor g f jobs rest → g.post f (last, tt) own → GivesFor g f all answers
  gives_for_all rest answers own out given own_given = record {
    len = omega (arith, given.len, longer, ap length out, length-append rest (own ∷ []));
    each = λ i other low. ⊎_elim
        (λ e. subst (GivesJob g f all i) (sym (ap (λ xs. get_or xs i other) out ∙ get_or_push rest own other i (given.len ∙ sym e.1)))
        (record { job = last; job_read = sym (at_last i last (sym e.1)); job_is = λ d. at_last i d (sym e.1); call = record { met = own_given } }))
        (λ e. let front : i < length jobs = omega (arith, low, longer, e.1) in
        let old = given.each i other front in
        subst (GivesJob g f all i) (sym (ap (λ xs. get_or xs i other) out ∙ get_or_append_left rest (own ∷ []) other i (omega (arith, front, given.len))))
        (record { job = old.job; job_read = old.job_read ∙ sym (at_front i old.job front); job_is = λ d. at_front i d front ∙ old.job_is d; call = old.call }))
        (eqb_tells i (length jobs));
  }
