-- The tally of a range of completed views. For each kind it has the number of faults whose first view is in the range, and the
-- least of them. Faults are ordered by that view, then by component, other view, or both components. The tally also has the
-- number of stale pairs: a view in the range precedes the other view, which shows less of some component.
use Rattle.std.specs.Prelude.{ℕ, suc, ◌+◌, ◌<◌, ◌^◌, ◌≡◌, List, unwrap_or, if◌then◌else◌}
use Rattle.snap_core.specs.declared.entry.Entry.{Entry}
use Rattle.snap_core.specs.Entries.{value_in}
use Rattle.snap_core.specs.Calls.{Call, shown, shown_number}
use Rattle.snap_conditions.specs.declared.fault.IntegrityFault.{IntegrityFault}
use Rattle.snap_conditions.specs.declared.fault.ProximityFault.{ProximityFault}
use Rattle.snap_conditions.specs.declared.fault.ReadFault.{ReadFault}
use Rattle.snap_conditions.specs.declared.fault.WriteFault.{WriteFault}
use Rattle.snap_conditions.specs.declared.fault.Side.TheVariants.{Old, Early}
use Rattle.snap_conditions.specs.declared.tally.Tally.{Tally}
use Rattle.snap_theory.specs.Faults.{integrity_faults, proximity_faults, read_faults, write_faults, stale_count, old_fault, least_exceeding}
use Rattle.snap_conditions.specs.Parts.{no_part, part_of, merged_part}

-- what a view shows of a component; number and value are 0 if it shows nothing
abbrev pub shown_entry : Call → ℕ → Entry
shown_entry r k = record { component = k; number = shown_number r k; value = value_in (shown r k) }

-- the faults as they are reported, by call numbers

abbrev pub reported_integrity : Call × ℕ → IntegrityFault
reported_integrity f = record { view = f.0.number; entry = shown_entry f.0 f.1 }

abbrev pub reported_proximity : List Call → Call × ℕ → ProximityFault
reported_proximity calls f = record { view = f.0.number; component = f.1; number = shown_number f.0 f.1; side = if old_fault calls f.0 f.1 then Old else Early }

abbrev pub reported_read : Call × Call → ReadFault
reported_read f = record { view = f.0.number; other = f.1.number; component = unwrap_or (least_exceeding f.0 f.1) 0 }

abbrev pub reported_write : Call × ℕ × ℕ → WriteFault
reported_write f =
    record {
      view = f.0.number;
      missed_component = f.1;
      missed_number = suc (shown_number f.0 f.1);
      shown_component = f.2;
      shown_number = shown_number f.0 f.2;
    }

-- the tally of the views rs against all calls
unfoldable pub tally_of : List Call → List Call → Tally
tally_of calls rs =
    record {
      integrity = part_of reported_integrity (integrity_faults calls rs);
      proximity = part_of (reported_proximity calls) (proximity_faults calls rs);
      read = part_of reported_read (read_faults calls rs);
      write = part_of reported_write (write_faults calls rs);
      stale = stale_count calls rs;
    }

abbrev pub no_fault : Tally
no_fault = record { integrity = no_part; proximity = no_part; read = no_part; write = no_part; stale = 0 }

-- a tally without its read faults and stale views
abbrev pub without_read : Tally → Tally
without_read t = record t { read = no_part; stale = 0 }

-- two tallies, merged part by part
abbrev pub merged : Tally → Tally → Tally
merged a b =
    record {
      integrity = merged_part a.integrity b.integrity;
      proximity = merged_part a.proximity b.proximity;
      read = merged_part a.read b.read;
      write = merged_part a.write b.write;
      stale = a.stale + b.stale;
    }

-- the sum of both counts of each kind fits the type of a count
pub record SumsFit (a b : Tally) : Type 0 where
  pub integrity : a.integrity.count + b.integrity.count < 2 ^ 64
  pub proximity : a.proximity.count + b.proximity.count < 2 ^ 64
  pub read : a.read.count + b.read.count < 2 ^ 64
  pub write : a.write.count + b.write.count < 2 ^ 64
  pub stale : a.stale + b.stale < 2 ^ 64

-- no fault of one view alone is counted
pub record CountsNoLocalFault (t : Tally) : Type 0 where
  pub integrity : t.integrity.count ≡ 0
  pub proximity : t.proximity.count ≡ 0

-- no fault is counted
pub record CountsNoFault (t : Tally) : Type 0 where
  pub local : CountsNoLocalFault t
  pub read : t.read.count ≡ 0
  pub write : t.write.count ≡ 0
