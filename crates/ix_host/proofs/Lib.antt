mod Rising
mod StagedSlots
