-- The faults and the printed order of calls whose processes are forgotten.
use Rattle.std.proofs.Common.{◌≡◌, ℕ, suc, ◌+◌, ◌*◌, ◌&&◌, ◌||◌, List, map, length, Option, Some, None, refl, sym, ap, ◌∙◌}
use Rattle.std.specs.Prelude.{◌==◌, not, nat_le, is_some}
use Rattle.std.specs.List.{filter, flat_map, count_by, list_any, sum_by, range_with_len}
use Rattle.std.proofs.lemmas.List.{length-map}
use Rattle.std.proofs.Math.Path.{fun_ext}
use Rattle.snap_core.specs.declared.entry.Entry.{Entry}
use Rattle.snap_core.specs.Calls.{Call, Operation, Updates, Views, precedes, is_view, shown, shown_number, is_update_numbered, views_of}
use Rattle.snap_theory.specs.Faults.{writes_entry, is_unwritten, integrity_fault, old_fault, early_fault, exceeds, read_fault, is_stale, write_fault, components, listed, integrity_faults, proximity_faults, read_faults, write_faults, stale_count}
use Rattle.snap_theory.specs.Levels.{update_level, view_level, rank_by, rank, stands_by, is_printed, printed_order}
use Rattle.snap_theory.specs.Processes.{anyones, anyones_local, anyones_read, anyones_write}
use Rattle.snap_theory.proofs.MappedLists.{any-map, sum-map, count-map, filter-map, filter_alike, map-map, gathered, gathered_here}

views_anyones : (calls : List Call) → views_of (map anyones calls) ≡ map anyones (views_of calls)
unfolding views_of is_view
views_anyones calls = filter-map is_view anyones calls

unwritten : (calls : List Call) (o : Option Entry) → is_unwritten (map anyones calls) o ≡ is_unwritten calls o
unwritten calls None = refl
unwritten calls (Some e) = ap not (any-map (λ c. writes_entry c.operation e) anyones calls)

integrity_at : (calls : List Call) (r : Call) (k : ℕ) → integrity_fault (map anyones calls) (anyones r) k ≡ integrity_fault calls r k
unfolding integrity_fault shown
integrity_at calls r k = unwritten calls (shown r k)

old_at : (calls : List Call) (r : Call) (k : ℕ) → old_fault (map anyones calls) (anyones r) k ≡ old_fault calls r k
unfolding old_fault shown shown_number is_update_numbered precedes
old_at calls r k = any-map _ anyones calls

early_at : (calls : List Call) (r : Call) (k : ℕ) → early_fault (map anyones calls) (anyones r) k ≡ early_fault calls r k
unfolding early_fault shown shown_number is_update_numbered precedes
early_at calls r k = any-map _ anyones calls

write_at : (calls : List Call) (r : Call) (j k : ℕ) → write_fault (map anyones calls) (anyones r) j k ≡ write_fault calls r j k
unfolding write_fault shown shown_number is_update_numbered precedes
write_at calls r j k =
    any-map _ anyones calls
    ∙ ap (λ t. list_any t calls) (fun_ext (λ a. ap (λ b. is_update_numbered j (suc (shown_number r j)) a && b) (any-map (λ b. is_update_numbered k (shown_number r k) b && precedes a b) anyones calls)))

pub integrity_anyones : (calls : List Call) → integrity_faults (map anyones calls) (views_of (map anyones calls)) ≡ map anyones_local (integrity_faults calls (views_of calls))
unfolding integrity_faults
integrity_anyones calls =
    ap (λ rs. integrity_faults (map anyones calls) rs) (views_anyones calls)
    ∙ gathered anyones anyones_local _ _ each (views_of calls)
  where
    each : (r : Call) → map (λ k. (anyones r, k)) (filter (integrity_fault (map anyones calls) (anyones r)) (listed r)) ≡ map anyones_local (map (λ k. (r, k)) (filter (integrity_fault calls r) (listed r)))
    each r = ap (map (λ k. (anyones r, k))) (filter_alike _ _ (listed r) (integrity_at calls r)) ∙ sym (map-map _ _ (filter (integrity_fault calls r) (listed r)))

pub proximity_anyones : (calls : List Call) → proximity_faults (map anyones calls) (views_of (map anyones calls)) ≡ map anyones_local (proximity_faults calls (views_of calls))
unfolding proximity_faults
proximity_anyones calls =
    ap (λ rs. proximity_faults (map anyones calls) rs) (views_anyones calls)
    ∙ gathered anyones anyones_local _ _ each (views_of calls)
  where
    at : (r : Call) (k : ℕ) → (old_fault (map anyones calls) (anyones r) k || early_fault (map anyones calls) (anyones r) k) ≡ (old_fault calls r k || early_fault calls r k)
    at r k = ap (λ b. b || early_fault (map anyones calls) (anyones r) k) (old_at calls r k) ∙ ap (λ b. old_fault calls r k || b) (early_at calls r k)

    each : (r : Call) → map (λ k. (anyones r, k)) (filter (λ k. old_fault (map anyones calls) (anyones r) k || early_fault (map anyones calls) (anyones r) k) components) ≡ map anyones_local (map (λ k. (r, k)) (filter (λ k. old_fault calls r k || early_fault calls r k) components))
    each r = ap (map (λ k. (anyones r, k))) (filter_alike _ _ components (at r)) ∙ sym (map-map _ _ (filter (λ k. old_fault calls r k || early_fault calls r k) components))

pub read_anyones : (calls : List Call) → read_faults (map anyones calls) (views_of (map anyones calls)) ≡ map anyones_read (read_faults calls (views_of calls))
unfolding read_faults read_fault exceeds shown_number shown precedes
read_anyones calls =
    ap (λ rs. flat_map (λ r. map (λ s. (r, s)) (filter (read_fault r) rs)) rs) (views_anyones calls)
    ∙ gathered anyones anyones_read _ _ each (views_of calls)
  where
    each : (r : Call) → map (λ s. (anyones r, s)) (filter (read_fault (anyones r)) (map anyones (views_of calls))) ≡ map anyones_read (map (λ s. (r, s)) (filter (read_fault r) (views_of calls)))
    each r =
        ap (map (λ s. (anyones r, s))) (filter-map (read_fault (anyones r)) anyones (views_of calls))
        ∙ map-map _ _ (filter (read_fault r) (views_of calls)) ∙ sym (map-map _ _ (filter (read_fault r) (views_of calls)))

pub write_anyones : (calls : List Call) → write_faults (map anyones calls) (views_of (map anyones calls)) ≡ map anyones_write (write_faults calls (views_of calls))
unfolding write_faults
write_anyones calls =
    ap (λ rs. write_faults (map anyones calls) rs) (views_anyones calls)
    ∙ gathered anyones anyones_write _ _ (λ r. gathered_here anyones_write _ _ (each r) components) (views_of calls)
  where
    each : (r : Call) (j : ℕ) → map (λ k. (anyones r, j, k)) (filter (write_fault (map anyones calls) (anyones r) j) (listed r)) ≡ map anyones_write (map (λ k. (r, j, k)) (filter (write_fault calls r j) (listed r)))
    each r j = ap (map (λ k. (anyones r, j, k))) (filter_alike _ _ (listed r) (write_at calls r j)) ∙ sym (map-map _ _ (filter (write_fault calls r j) (listed r)))

pub stale_anyones : (calls : List Call) → stale_count (map anyones calls) (views_of (map anyones calls)) ≡ stale_count calls (views_of calls)
unfolding stale_count is_stale exceeds shown_number shown precedes
stale_anyones calls =
    ap (λ rs. sum_by (λ r. count_by (is_stale r) rs) rs) (views_anyones calls)
    ∙ sum-map _ anyones (views_of calls)
    ∙ ap (λ g. sum_by g (views_of calls)) (fun_ext (λ r. count-map (is_stale (anyones r)) anyones (views_of calls)))

-- the printed order

update_level_anyones : (calls : List Call) (e : Entry) → update_level (map anyones calls) e ≡ update_level calls e
unfolding update_level is_view shown_number shown
update_level_anyones calls e = count-map _ anyones calls

view_level_anyones : (calls : List Call) (r : Call) → view_level (map anyones calls) (anyones r) ≡ view_level calls r
unfolding view_level is_view exceeds shown_number shown
view_level_anyones calls r = count-map _ anyones calls

rank_anyones : (calls : List Call) (c : Call) → rank (map anyones calls) (anyones c) ≡ rank calls c
unfolding rank
rank_anyones calls c = go c.operation
  where
    go : (o : Operation) → rank_by (map anyones calls) (anyones c) o ≡ rank_by calls c o
    go (Updates e) = ap (λ n. 2 * n) (update_level_anyones calls e)
    go (Views answer) = ap (λ n. 2 * n + 1) (view_level_anyones calls c)

printed_anyones : (calls : List Call) (c : Call) → is_printed (map anyones calls) (anyones c) ≡ is_printed calls c
unfolding is_printed is_view shown_number shown
printed_anyones calls c = go c.operation
  where
    go : (o : Operation) → stands_by (map anyones calls) c.ended o ≡ stands_by calls c.ended o
    go (Updates e) = ap (λ b. is_some c.ended || b) (any-map (λ r. is_view r && nat_le e.number (shown_number r e.component)) anyones calls)
    go (Views answer) = refl

pub order_anyones : (calls : List Call) → printed_order (map anyones calls) ≡ map anyones (printed_order calls)
unfolding printed_order
order_anyones calls =
    ap (λ m. flat_map (at (map anyones calls)) (range_with_len 0 (2 * m + 2))) (length-map calls anyones)
    ∙ gathered_here anyones (at calls) (at (map anyones calls)) each (range_with_len 0 (2 * length calls + 2))
  where
    at : List Call → ℕ → List Call
    at cs n = filter (λ c. is_printed cs c && (rank cs c == n)) cs

    same : (n : ℕ) (c : Call) → (is_printed (map anyones calls) (anyones c) && (rank (map anyones calls) (anyones c) == n)) ≡ (is_printed calls c && (rank calls c == n))
    same n c = ap (λ b. b && (rank (map anyones calls) (anyones c) == n)) (printed_anyones calls c) ∙ ap (λ m. is_printed calls c && (m == n)) (rank_anyones calls c)

    each : (n : ℕ) → at (map anyones calls) n ≡ map anyones (at calls n)
    each n = filter-map _ anyones calls ∙ ap (map anyones) (filter_alike _ _ calls (same n))
