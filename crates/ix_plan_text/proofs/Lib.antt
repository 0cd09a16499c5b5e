mod Basics
mod FirstFaults
mod Marks
mod PlansBack
mod StepsBack
