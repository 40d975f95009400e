-- What stands in the printed order, and in which order.
use Rattle.std.proofs.Common.{◌≡◌, ◌≢◌, ◌⊎◌, ℕ, zero, suc, ◌+◌, ◌*◌, ◌<◌, ◌≤◌, Bool, true, false, ◌&&◌, List, ◌++◌, length, refl, sym, ◌∙◌, inl, inr, arith}
use Rattle.std.specs.Prelude.{◌==◌}
use Rattle.std.specs.List.{filter, flat_map, range_with_len}
use Rattle.std.proofs.lemmas.Bool.{and_parts, and_from, eqb-true, eqb-false}
use Rattle.snap_core.specs.Calls.{Call}
use Rattle.snap_theory.specs.Levels.{rank, is_printed, printed_order}
use Rattle.snap_core.proofs.Lists.{In, In-append_left, In-append_right, In-append_cases, In-filter, In-from_filter, Pairs, Pairs-append, Pairs-filter, Pairs-weaker}
use Rattle.snap_theory.proofs.Ranks.{rank_below}

-- a stands in the printed order before b
abbrev pub Earlier : List Call → Call → Call → Type 0
Earlier calls a b = (rank calls a < rank calls b) ⊎ ((rank calls a ≡ rank calls b) × (a.number < b.number))

-- the printed calls of one rank
abbrev bucket : List Call → ℕ → List Call
bucket calls n = filter (λ c. is_printed calls c && (rank calls c == n)) calls

abbrev buckets : List Call → ℕ → ℕ → List Call
buckets calls a n = flat_map (bucket calls) (range_with_len a n)

in_bucket : (calls : List Call) (n : ℕ) (c : Call) → In c (bucket calls n) → In c calls × (is_printed calls c ≡ true) × (rank calls c ≡ n)
in_bucket calls n c i =
    let f = In-from_filter (λ c. is_printed calls c && (rank calls c == n)) calls c i in
    let p = and_parts _ _ f.1 in
    (f.0, p.0, eqb-true _ _ p.1)

in_buckets : (calls : List Call) (n a : ℕ) (c : Call) → In c (buckets calls a n) → In c calls × (is_printed calls c ≡ true) × (a ≤ rank calls c)
in_buckets calls zero a c i = absurd i
in_buckets calls (suc n) a c i = elim (In-append_cases c (bucket calls a) (buckets calls (a + 1) n) i) [
  | inl j ↦ let r = in_bucket calls a c j in (r.0, r.1, omega (arith, r.2))
  | inr j ↦ let r = in_buckets calls n (a + 1) c j in (r.0, r.1, omega (arith, r.2))
]

to_buckets : (calls : List Call) (n a : ℕ) (c : Call) → In c calls → is_printed calls c ≡ true → a ≤ rank calls c → rank calls c < a + n → In c (buckets calls a n)
to_buckets calls zero a c i p l m = absurd (omega arith)
to_buckets calls (suc n) a c i p l m = go (rank calls c == a) refl (λ h. to_buckets calls n (a + 1) c i p h (omega arith))
  where
    go : (b : Bool) → (rank calls c == a) ≡ b → (a + 1 ≤ rank calls c → In c (buckets calls (a + 1) n)) → In c (bucket calls a ++ buckets calls (a + 1) n)
    go true t rest = In-append_left c (bucket calls a) _ (In-filter (λ c. is_printed calls c && (rank calls c == a)) calls c i (and_from _ _ p t))
    go false t rest = let other : rank calls c ≢ a = eqb-false _ _ t in In-append_right c (bucket calls a) _ (rest (omega arith))

bucket_pairs : (calls : List Call) (n : ℕ) → Pairs (λ a b. a.number < b.number) calls → Pairs (Earlier calls) (bucket calls n)
bucket_pairs calls n p =
    Pairs-weaker (λ a b. a.number < b.number) (Earlier calls) (bucket calls n)
    (λ a b i j l. let x = in_bucket calls n a i in let y = in_bucket calls n b j in inr (x.2 ∙ sym y.2, l))
    (Pairs-filter (λ a b. a.number < b.number) (λ c. is_printed calls c && (rank calls c == n)) calls p)

buckets_pairs : (calls : List Call) (n a : ℕ) → Pairs (λ a b. a.number < b.number) calls → Pairs (Earlier calls) (buckets calls a n)
buckets_pairs calls zero a p = tt
buckets_pairs calls (suc n) a p = Pairs-append (Earlier calls) (bucket calls a) (buckets calls (a + 1) n) (bucket_pairs calls a p) (buckets_pairs calls n (a + 1) p)
    (λ x y i j. inl (omega (arith, (in_bucket calls a x i).2, (in_buckets calls n (a + 1) y j).2)))

pub in_printed : (calls : List Call) (c : Call) → In c (printed_order calls) → In c calls × (is_printed calls c ≡ true)
unfolding printed_order
in_printed calls c i = let r = in_buckets calls (2 * length calls + 2) 0 c i in (r.0, r.1)

pub to_printed : (calls : List Call) (c : Call) → In c calls → is_printed calls c ≡ true → In c (printed_order calls)
unfolding printed_order
to_printed calls c i p = to_buckets calls (2 * length calls + 2) 0 c i p (omega arith) (omega (arith, rank_below calls c))

pub printed_pairs : (calls : List Call) → Pairs (λ a b. a.number < b.number) calls → Pairs (Earlier calls) (printed_order calls)
unfolding printed_order
printed_pairs calls p = buckets_pairs calls (2 * length calls + 2) 0 p
