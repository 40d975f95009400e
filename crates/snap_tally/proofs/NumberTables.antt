-- The numbers of views, put into a table by components.
use Rattle.std.proofs.Common.{◌≡◌, ◌≢◌, ◌⊎◌, ℕ, ◌+◌, ◌<◌, ◌≤◌, cond, List, [], ◌∷◌, replicate, set, take, length, get_or, refl, sym, ap, ◌∙◌, inl, inr, arith, get_or-set_same, get_or-set_other, length-set}
use Rattle.std.specs.List.{All}
use Rattle.std.proofs.lemmas.Bool.{cases_lt, cases_eq, eq-eqb, ne_eqb}
use Rattle.std.proofs.lemmas.List.{length-replicate, get_or-replicate, get_or_past}
use Rattle.snap_core.specs.declared.entry.Entry.{Entry}
use Rattle.snap_core.specs.Entries.{EntryFits}
use Rattle.snap_grid.specs.Columns.{number}
use Rattle.snap_core.specs.Calls.{Call, views_of, shown_number, entries_of}
use Rattle.snap_tally.specs.inside.NumberTables.{opened, HasRows, IsPut, AreFilled, IsRowOf}
use Rattle.snap_views.specs.Seen.{view_in}
use Rattle.snap_views.specs.Rows.{number_among}
use Rattle.snap_theory.proofs.Entries.{AreSorted, nothing}
use Rattle.snap_views.proofs.Rows.{among_more, among_is_shown}

pub opened_length : (count : ℕ) (row : List ℕ) → (row ≡ []) ⊎ (length row ≡ count) → length (opened count row) ≡ count
opened_length count [] h = length-replicate count 0
opened_length count (n ∷ ns) (inl e) = absurd (let l : length (n ∷ ns) ≡ 0 = ap length e in omega (arith, l))
opened_length count (n ∷ ns) (inr e) = e

pub opened_number : (count : ℕ) (row : List ℕ) (p : ℕ) → number (opened count row) p ≡ number row p
opened_number count [] p = elim (cases_lt p count) [
  | inl l ↦ get_or-replicate count p 0 0 l
  | inr l ↦ get_or_past (replicate count 0) p 0 (omega (arith, l, length-replicate {A = ℕ} count 0))
]
opened_number count (n ∷ ns) p = refl

pub none_put : (count place : ℕ) (table : List (List ℕ)) → HasRows count table → IsPut count place [] table table
none_put count place table h = record { rows = h; here = λ k l e. e; others = λ k p l m. refl }

pub one_put : (count place : ℕ) (es : List Entry) (i : ℕ) (old now : List (List ℕ)) → AreSorted es → All EntryFits es → i < length es → place < count → IsPut count place (take i es) old now →
    IsPut count place (take (i + 1) es) old (set now (get_or es i nothing).component (set (opened count (get_or now (get_or es i nothing).component [])) place (get_or es i nothing).number))
one_put count place es i old now s f l m h = record {
  rows = record {
    size = length-set now c row ∙ h.rows.size;
    each = λ k b. elim (cases_eq k c) [
      | inl same ↦ inr (ap length (at_c k same) ∙ length-set (opened count (get_or now c [])) place n ∙ long)
      | inr other ↦ elim (h.rows.each k b) [ inl e ↦ inl (away k other ∙ e) | inr e ↦ inr (ap length (away k other) ∙ e) ]
    ];
  };
  here = λ k b e. elim (cases_eq k c) [
    | inl same ↦
        ap (λ z. number z place) (at_c k same) ∙ get_or-set_same (opened count (get_or now c [])) place n 0 (omega (arith, m, long))
        ∙ sym (among_more es i nothing k s l ∙ ap (λ z. cond z n (number_among (take i es) k)) (eq-eqb c k (sym same)))
    | inr other ↦
        ap (λ z. number z place) (away k other) ∙ h.here k b e
        ∙ sym (among_more es i nothing k s l ∙ ap (λ z. cond z n (number_among (take i es) k)) (ne_eqb c k (λ q. other (sym q))))
  ];
  others = λ k p b q. elim (cases_eq k c) [
    | inl same ↦
        ap (λ z. number z p) (at_c k same) ∙ get_or-set_other (opened count (get_or now c [])) place p n 0 q ∙ opened_number count (get_or now c []) p
        ∙ ap (λ z. number (get_or now z []) p) (sym same) ∙ h.others k p b q
    | inr other ↦ ap (λ z. number z p) (away k other) ∙ h.others k p b q
  ];
}
  where
    c : ℕ
    c = (get_or es i nothing).component

    n : ℕ
    n = (get_or es i nothing).number

    row : List ℕ
    row = set (opened count (get_or now c [])) place n

    byte : c < 256
    byte = (f i nothing l).0

    long : length (opened count (get_or now c [])) ≡ count
    long = opened_length count (get_or now c []) (h.rows.each c byte)

    at_c : (k : ℕ) → k ≡ c → get_or (set now c row) k [] ≡ row
    at_c k same = ap (λ z. get_or (set now c row) z []) same ∙ get_or-set_same now c row [] (omega (arith, byte, h.rows.size))

    away : (k : ℕ) → k ≢ c → get_or (set now c row) k [] ≡ get_or now k []
    away k other = get_or-set_other now c k row [] other

pub nothing_filled : (calls : List Call) (from to : ℕ) → AreFilled calls from to 0 (replicate 256 [])
nothing_filled calls from to = record {
  rows = record { size = length-replicate {A = List ℕ} 256 []; each = λ k l. inl (get_or-replicate {A = List ℕ} 256 k [] [] l) };
  seen = λ place k l b t. absurd (omega arith);
  later = λ place k l b. ap (λ z. number z place) (get_or-replicate {A = List ℕ} 256 k [] [] b);
}

pub view_filled : (calls : List Call) (from to n : ℕ) (old new : List (List ℕ)) (es : List Entry) → ((k : ℕ) → from ≤ k → k < to → number_among es k ≡ number_among (entries_of (view_in calls n).operation) k) → AreFilled calls from to n old →
    IsPut (length (views_of calls)) n es old new → AreFilled calls from to (n + 1) new
view_filled calls from to n old new es is f p = record {
  rows = p.rows;
  seen = λ place k l a t b. elim (cases_eq place n) [
    | inl here ↦
        ap (number (get_or new k [])) here ∙ p.here k b (f.later n k (omega arith) b) ∙ is k a t ∙ among_is_shown (view_in calls n) k ∙ ap (λ z. shown_number (view_in calls z) k) (sym here)
    | inr other ↦ p.others k place b other ∙ f.seen place k (omega (arith, l, other)) a t b
  ];
  later = λ place k l b. p.others k place b (λ q. absurd (omega (arith, q, l))) ∙ f.later place k (omega (arith, l)) b;
}

pub row_of : (calls : List Call) (from to : ℕ) (table : List (List ℕ)) → AreFilled calls from to (length (views_of calls)) table → (k : ℕ) → from ≤ k → k < to → k < 256 → IsRowOf calls k (get_or table k [])
row_of calls from to table f k a t b = record {
  none = λ e place l. sym (f.seen place k l a t b) ∙ ap (λ z. number z place) e;
  some = λ h. elim (f.rows.each k b) [
    | inl e ↦ absurd (h e)
    | inr size ↦ record { count = size; each = λ place l. f.seen place k l a t b }
  ];
}
