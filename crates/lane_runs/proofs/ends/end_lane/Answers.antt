-- The end in the form that was asked for.
use Rattle.lane_runs.proofs.ends.end_lane.Goals as goal
use Rattle.lane_runs.proofs.ends.end_lane.Goals.{in-Plain, in-Padded}

pub returns : goal.returns
returns c = record {
  result = c.match-form.ended;
  ends = elim c.match-form.branch [
    | in-Plain w ↦ rw (w.in-Plain.is, w.text-is, w.ended-is) (rw c.copy_from_slice.ensures.after at w.end_plain-ended.ensures)
    | in-Padded w ↦ rw (w.in-Padded.is, w.text-is, w.ended-is) (rw c.copy_from_slice.ensures.after at w.end_padded-ended.ensures)
  ];
  status_is = c.told.ensures.status;
  key_len_is = c.told.ensures.key_len;
}
