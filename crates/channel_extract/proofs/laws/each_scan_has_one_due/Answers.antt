-- Exactly one scan is due, as `DueScans` proves, and its cuts are limited by bytes alone, as `RefusedCuts` does.
use Rattle.channel_extract.proofs.DueScans.{a-due, no-two-dues}
use Rattle.channel_extract.proofs.RefusedCuts.{only-bytes}
use Rattle.channel_extract.proofs.laws.each_scan_has_one_due.Goals as goal

pub returns : goal.returns
returns c = record { exists = a-due; unique = no-two-dues; limited = only-bytes }
