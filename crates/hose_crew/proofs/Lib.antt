mod Arriving
mod Gathering
mod GivingBack
mod Serving
mod Working
