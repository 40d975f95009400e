-- Where the conditions hold, ranks respect precedence.
use Rattle.std.proofs.Common.{◌≡◌, ◌+◌, ◌*◌, ◌<◌, ◌≤◌, true, List, length, refl, ap, inl, arith, Some, None}
use Rattle.std.specs.List.{Contains}
use Rattle.std.proofs.lemmas.Bool.{false≢true}
use Rattle.std.proofs.lemmas.List.Sums.{count_by-le-length}
use Rattle.snap_core.specs.declared.entry.Entry.{Entry}
use Rattle.snap_core.specs.Calls.{Call, Operation, Updates, Views, precedes, is_view, is_answer}
use Rattle.snap_core.specs.Regular.{IsViewOf, IsUpdateOf}
use Rattle.snap_theory.specs.Conditions.{MeetsConditions}
use Rattle.snap_theory.specs.Levels.{update_level, view_level, rank, rank_by, is_printed, stands_by}
use Rattle.snap_theory.proofs.Chain.{view_view_levels, view_update_levels, update_view_levels, update_update_levels}

-- a printed call is an update or a completed view
pub data Kind (calls : List Call) (c : Call) : Type 0 where
  an_update : (e : Entry) → c.operation ≡ Updates e → rank calls c ≡ 2 * update_level calls e → Kind calls c
  a_view : is_view c ≡ true → rank calls c ≡ 2 * view_level calls c + 1 → Kind calls c

pub update_rank : (calls : List Call) (c : Call) (e : Entry) → c.operation ≡ Updates e → rank calls c ≡ 2 * update_level calls e
unfolding rank
update_rank calls c e h = ap (rank_by calls c) h

pub view_rank : (calls : List Call) (c : Call) → is_view c ≡ true → rank calls c ≡ 2 * view_level calls c + 1
unfolding rank is_view
view_rank calls c h = go c.operation h
  where
    go : (o : Operation) → is_answer o ≡ true → rank_by calls c o ≡ 2 * view_level calls c + 1
    go (Updates e) t = absurd (false≢true t)
    go (Views (Some es)) t = refl
    go (Views None) t = absurd (false≢true t)

pub kind_of : (calls : List Call) (c : Call) → is_printed calls c ≡ true → Kind calls c
unfolding is_printed is_view
kind_of calls c h = go c.operation refl h
  where
    go : (o : Operation) → c.operation ≡ o → stands_by calls c.ended o ≡ true → Kind calls c
    go (Updates e) i t = an_update e i (update_rank calls c e i)
    go (Views (Some es)) i t = let v : is_view c ≡ true = ap is_answer i in a_view v (view_rank calls c v)
    go (Views None) i t = absurd (false≢true t)

pub rank_below : (calls : List Call) (c : Call) → rank calls c < 2 * length calls + 2
unfolding rank update_level view_level
rank_below calls c = go c.operation
  where
    go : (o : Operation) → rank_by calls c o < 2 * length calls + 2
    go (Updates e) = omega (arith, count_by-le-length {X = Call})
    go (Views (Some es)) = omega (arith, count_by-le-length {X = Call})
    go (Views None) = omega (arith, count_by-le-length {X = Call})

-- the four pairings
pub precedes_ranks : (calls : List Call) → MeetsConditions calls → (a b : Call) → Contains calls a → Contains calls b → Kind calls a → Kind calls b → precedes a b ≡ true → rank calls a ≤ rank calls b
precedes_ranks calls m a b i j (an_update d x s) (an_update e y t) h =
    let u : IsUpdateOf calls a d = record { there = i; writes = x } in
    let w : IsUpdateOf calls b e = record { there = j; writes = y } in
    let l = update_update_levels calls d e (λ r v. m.write r a b d e v u w h) in omega (arith, l)
precedes_ranks calls m a b i j (an_update d x s) (a_view y t) h =
    let u : IsUpdateOf calls a d = record { there = i; writes = x } in
    let v : IsViewOf calls b = record { there = j; completed = y } in
    let l = update_view_levels calls m b d v (m.proximity_old b a d v u h) in omega (arith, l)
precedes_ranks calls m a b i j (a_view x s) (an_update e y t) h =
    let v : IsViewOf calls a = record { there = i; completed = x } in
    let u : IsUpdateOf calls b e = record { there = j; writes = y } in
    let l = view_update_levels calls a e v (m.proximity_early a b e v u h) in omega (arith, l)
precedes_ranks calls m a b i j (a_view x s) (a_view y t) h =
    let v : IsViewOf calls a = record { there = i; completed = x } in
    let w : IsViewOf calls b = record { there = j; completed = y } in
    let l = view_view_levels calls a b (m.read a b v w (inl h)) in omega (arith, l)
